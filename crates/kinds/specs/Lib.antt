-- What a node is in the numbers of `meaning`.
pub mod Nodes
pub mod Words

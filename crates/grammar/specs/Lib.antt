-- The laws of patterns: a machine that reads them and what follows from it, the numbering of marks, how rows hold an expression, what every
-- accepted pattern has, and what a reader of patterns says of itself and promises.
pub mod Machine
pub mod Reads
pub mod Sound
pub mod ByteRow
pub mod Viable
pub mod Place
pub mod Depth
pub mod Bounds
pub mod Each
pub mod Fair
pub mod Open
pub mod Numbering
pub mod MarkedParts
pub mod Examples
pub mod Contract
pub mod ClassContract
pub mod Flat
pub mod ByteTests
pub mod Holds
pub mod Accepted
pub mod ReadPromise

-- What an answer says: its number and value, and the parts of the read pattern. Assumes nothing: these are definitions.
use Rattle.std.specs.Prelude.{◌≡◌, List, ℕ, replicate, ⊤}
use Rattle.std.specs.declared.result.Result.{Result}
use Rattle.std.specs.declared.result.Result.TheVariants.{Ok, Err}
use Rattle.meaning.specs.ReadPattern as meaning
use Rattle.meaning.specs.Promise as promise
use Rattle.kinds.specs.declared.ReadPattern.{ReadPattern}
use Rattle.kinds.specs.Nodes.{kinds_of, args_of}
use Rattle.kinds.specs.Words.{words_of, no_byte, Fours}
use Rattle.pattern.specs.declared.Refusal.{Refusal}
use Rattle.pattern.specs.declared.Refusal.TheVariants.{TooLong, NoPattern, TooDeep, ManyPositions, ManyMarks}

-- the number of a refusal, and its value
abbrev pub refusal_number : Refusal → ℕ
refusal_number TooLong = 1
refusal_number (NoPattern place) = 4
refusal_number TooDeep = 5
refusal_number ManyPositions = 6
refusal_number ManyMarks = 7

abbrev pub refusal_value : Refusal → ℕ
refusal_value TooLong = 0
refusal_value (NoPattern place) = place
refusal_value TooDeep = 0
refusal_value ManyPositions = 0
refusal_value ManyMarks = 0

-- the number of an answer, and its value
abbrev pub number_of : Result ReadPattern Refusal → ℕ
number_of (Ok P) = 0
number_of (Err r) = refusal_number r

abbrev pub value_of : Result ReadPattern Refusal → ℕ
value_of (Ok P) = 0
value_of (Err r) = refusal_value r

-- what the read pattern has, in the words of the definitions
abbrev pub pattern_parts : ReadPattern → meaning.ReadPattern
pattern_parts P = record { kind = kinds_of P.node; arg = args_of P.node; class = words_of P.class; nodes = P.nodes; positions = P.positions; marks = P.marks }

-- what an answer has: a refusal has no parts
abbrev pub parts_of : Result ReadPattern Refusal → meaning.ReadPattern
parts_of (Ok P) = pattern_parts P
parts_of (Err r) = meaning.no_parts

-- each class of what was read has four words
abbrev pub WithFours : Result ReadPattern Refusal → Type 0
WithFours (Ok P) = Fours P.class
WithFours (Err r) = ⊤

-- what the contract of `read` says of an answer
abbrev pub Answers : List ℕ → Result ReadPattern Refusal → Type 0
Answers pat a = promise.Read pat (number_of a) (value_of a) (parts_of a) × WithFours a

-- ---- a read pattern that is lent

-- rows of zeros, and of classes with no byte
pub record Blank (P : ReadPattern) : Type 0 where
  pub kinds : kinds_of P.node ≡ replicate 1024 0
  pub args : args_of P.node ≡ replicate 1024 0
  pub classes : P.class ≡ replicate 64 no_byte

-- what is filled counts where the pattern was read
abbrev pub answer_of : Result ⊤ Refusal → ReadPattern → Result ReadPattern Refusal
answer_of (Ok done) P = Ok P
answer_of (Err r) P = Err r

-- figures of zero
pub record Bare (P : ReadPattern) : Type 0 where
  pub nodes : P.nodes ≡ 0
  pub positions : P.positions ≡ 0
  pub marks : P.marks ≡ 0

-- a refusal has figures of zero
abbrev pub Figured : Result ⊤ Refusal → ReadPattern → Type 0
Figured (Ok done) P = ⊤
Figured (Err r) P = Bare P

-- what was filled is an answer for the pattern
pub record Fills (pat : List ℕ) (filled : Result ⊤ Refusal) (P : ReadPattern) : Type 0 where
  pub answers : Answers pat (answer_of filled P)
  pub figured : Figured filled P

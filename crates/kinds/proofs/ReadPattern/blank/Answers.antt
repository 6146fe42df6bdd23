-- `kinds::ReadPattern::blank` meets its contract. Assumes nothing.
use Rattle.std.proofs.Common.{ap, replicate}
use Rattle.sets.specs.declared.class.Class.{Class}
use Rattle.sets.proofs.ClassLaws.{class_fits}
use Rattle.kinds.proofs.NodeLaws.{blank_kinds, blank_args}
use Rattle.kinds.proofs.WordLaws.{no_byte_is}
use Rattle.kinds.proofs.ReadPattern.blank.Goals as goal

pub returns-clause-kinds : goal.returns-clause-kinds
returns-clause-kinds c = blank_kinds 1024

pub returns-clause-args : goal.returns-clause-args
returns-clause-args c = blank_args 1024

pub returns-clause-classes : goal.returns-clause-classes
returns-clause-classes c = ap (λ (k : Class). replicate 64 k) (no_byte_is _ (class_fits c.none.type_inv) c.none.ensures)

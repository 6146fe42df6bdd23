-- `lines::parts::split` meets its contract. Assumes nothing.
use mathlib.Core.Path.{◌≡◌}
use Prim.Native.Nat.{ℕ, ◌<◌, ◌≤◌}
use lib.ListN.{length, get_or}
use borrow.Author.Rules.{rules}
use Rattle.lines.proofs.PartsLaws.{split_first}
use Rattle.lines.proofs.parts.split.Goals as goal

pub returns : goal.returns
returns c =
    let input = c.args.input.now in
    let at = c.unwrap_or.result in
    let within : at ≤ length input = search rules in
    let before : (k : ℕ) → k < at → get_or input k 0 ≡ 10 → ⊥ = search rules in
    let here : at < length input → get_or input at 0 ≡ 10 = search rules in
    split_first input at within before here

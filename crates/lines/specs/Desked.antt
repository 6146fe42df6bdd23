-- What the desk writes, and where. Assumes nothing.
use Rattle.std.specs.Prelude.{◌≡◌, List, ℕ, ◌≤◌, length, take, replicate}
use Rattle.meaning.specs.Promise.{Answered, written}
use Rattle.meaning.specs.Desk.{Desk, desk_lines, desk_cells, desk_tokens}
use Rattle.lines.specs.Wrote.{Wrote, longest}

-- t became t': the lines of an answer for the pattern and the text stand at the front, as far as they go, and have r bytes
pub record Answer (pat text t t' : List ℕ) (r : ℕ) : Type 0 where
  pub n : ℕ
  pub v : ℕ
  pub f : ℕ
  pub cells : List ℕ
  pub room : List ℕ
  pub answered : Answered pat text (replicate desk_cells 0) (replicate desk_tokens 0) n v f cells room
  pub wrote : Wrote t 0 (desk_lines n v f (take v room)) t' r
  pub short : r ≤ longest

-- t became t': the output of an input stands at the front, whole, and has r bytes. The last two parts follow from the others: with them the part
-- of t' that holds the output can be lent without a proof
pub record Desked (input t t' : List ℕ) (r : ℕ) : Type 0 where
  pub output : List ℕ
  pub wrote : Desk input output
  pub at_front : t' ≡ written output t
  pub counted : r ≡ length output
  pub within : r ≤ length t'
  pub held : r ≡ length (take r t')

-- Every class of a pattern names a byte.
use Rattle.std.specs.Prelude.{◌≡◌, refl, Bool, true, List, ℕ, ◌≤◌, ◌<◌}
use Rattle.std.proofs.Common.{arith, le-leb, lit<}
use Rattle.meaning.specs.Expression.{Re, eps, pos, cat, alt, branch, star, plus, opt}
use Rattle.meaning.specs.Grammar.{either, only, range, Range, single, span, Class, range_one, range_more, Bytes, byte}
use Rattle.meaning.specs.Grammar.{Part, Is, literal, escaped, dot, class, unit, group, once, starred, plussed, optional, item_one, item_more, front_one, front_more, lone, several, Pattern}
use Rattle.grammar.specs.ByteRow.{bytes_left, bytes_right, bytes_tail, char_byte}

-- a test that some byte passes
pub data Names : (ℕ → Bool) → Type 0 where
  names : {c : ℕ → Bool} {b : ℕ} → b < 256 → c b ≡ true → Names c

-- each position of e can be read
pub data Open : Re → Type 0 where
  o_eps : Open eps
  o_pos : {c : ℕ → Bool} → Names c → Open (pos c)
  o_cat : {x y : Re} → Open x → Open y → Open (cat x y)
  o_alt : {x y : Re} → Open x → Open y → Open (alt x y)
  o_branch : {x : Re} → Open x → Open (branch x)
  o_star : {x : Re} → Open x → Open (star x)
  o_plus : {x : Re} → Open x → Open (plus x)
  o_opt : {x : Re} → Open x → Open (opt x)

low_end : {c d : ℕ} → c < 256 → c ≤ d → Names (range c d)
low_end {c} {d} h l = names {c = range c d} {b = c} h (rw (le-leb c c (omega arith), le-leb c d l))

itself : {c : ℕ} → c < 256 → Names (only c)
itself {c} h = low_end {c = c} {d = c} h (omega arith)

range_names : {s : List ℕ} {f : ℕ → Bool} → Range s f → Bytes s → Names f
range_names (single c) h = itself (char_byte c h)
range_names (span {s = s} c c' l) h = low_end (char_byte c (bytes_left s _ h)) l

more_names : {f : ℕ → Bool} (g : ℕ → Bool) → Names f → Names (either f g)
more_names {f} g (names {b = b} h e) = names {c = either f g} {b = b} h (rw e)

class_names : {s : List ℕ} {f : ℕ → Bool} → Class s f → Bytes s → Names f
class_names (range_one r) h = range_names r h
class_names (range_more {s = s} {g = g} c r) h = more_names g (class_names c (bytes_left s _ h))

readable : {p : Part} {s : List ℕ} {e : Re} {d : ℕ} → Is p s e d → Bytes s → Open e
readable (literal p) (byte h r) = o_pos (itself h)
readable escaped (byte g (byte h r)) = o_pos (itself h)
readable dot h = o_pos (names {b = 0} (lit< tt) refl)
readable (class {s = s} c) h = o_pos (class_names c (bytes_left s _ (bytes_tail h)))
readable unit h = o_eps
readable (group {s = s} p) h = readable p (bytes_left s _ (bytes_tail h))
readable (once a) h = readable a h
readable (starred {s = s} a) h = o_star (readable a (bytes_left s _ h))
readable (plussed {s = s} a) h = o_plus (readable a (bytes_left s _ h))
readable (optional {s = s} a) h = o_opt (readable a (bytes_left s _ h))
readable (item_one i) h = readable i h
readable (item_more {s = s} i b) h = o_cat (readable i (bytes_left s _ h)) (readable b (bytes_right s h))
readable (front_one {s = s} b) h = o_branch (readable b (bytes_left s _ h))
readable (front_more {s = s} {t = t} f b) h = o_alt (readable f (bytes_left s _ h)) (o_branch (readable b (bytes_left t _ (bytes_right s h))))
readable (lone b) h = readable b h
readable (several {s = s} f b) h = o_alt (readable f (bytes_left s _ h)) (o_branch (readable b (bytes_right s h)))

pub pattern_open : {s : List ℕ} {e : Re} {d : ℕ} → Bytes s → Pattern s e d → Open e
pattern_open h p = readable p h

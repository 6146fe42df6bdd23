-- The definitions tried on worked examples: a wrong definition shows here.
use Rattle.std.specs.Prelude.{◌≡◌, refl, List, [], ◌∷◌, ℕ}
use Rattle.meaning.specs.declared.Record.{Record}
use Rattle.meaning.specs.Expression.{Re, pos, cat, alt, branch, star, opt, marks, size}
use Rattle.meaning.specs.Grammar.{any, only}
use Rattle.meaning.specs.Tree.{erase}
use Rattle.meaning.specs.Limits.{room_for}
use Rattle.meaning.specs.ReadPattern.{nodes, kinds, args, binary, word}
use Rattle.meaning.specs.Turns.{some_token, up_to_closing, turn_count, bytes_in, bytes_read, longest_turn}
use Rattle.meaning.specs.Promise.{cleared, written}
use Rattle.meaning.specs.Desk.{pattern_in, text_in, digits, answer_line, token, tokens, tree_line, desk_lines}
use Rattle.meaning.specs.Night.{sum, greatest, reports_in, records}
use Rattle.meaning.specs.Sheet.{lines, mark_lines, change_lines, sheet_text, tonight}

-- (a|ab)b? and its row for ab: o1 a c1 o3 b c3
shown : Re
shown = cat (alt (branch (pos (only 97))) (branch (cat (pos (only 97)) (pos (only 98))))) (opt (pos (only 98)))

row : List ℕ
row = 1 ∷ 353 ∷ 129 ∷ 3 ∷ 354 ∷ 131 ∷ []

shown_marks : marks shown ≡ 3
unfolding shown marks
shown_marks = refl

shown_size : size shown ≡ 4
unfolding shown size
shown_size = refl

-- the parts a, branch, a, b, ab, branch, the list, b, b?, the whole
shown_kinds : kinds shown ≡ 1 ∷ 4 ∷ 1 ∷ 1 ∷ 2 ∷ 4 ∷ 3 ∷ 1 ∷ 7 ∷ 2 ∷ []
unfolding shown kinds
shown_kinds = refl

shown_args : args 0 0 0 shown ≡ 0 ∷ 1 ∷ 1 ∷ 2 ∷ 2 ∷ 2 ∷ 1 ∷ 3 ∷ 3 ∷ 6 ∷ []
unfolding shown args nodes marks size
shown_args = refl

-- a is bit 33 of the second word, and of no other; a dot has every bit
letter_word : word (only 97) 1 ≡ 0x2_0000_0000
unfolding binary
letter_word = refl

other_word : word (only 97) 0 ≡ 0
unfolding binary
other_word = refl

dot_word : word any 3 ≡ 0xffff_ffff_ffff_ffff
unfolding binary
dot_word = refl

row_text : erase row ≡ 97 ∷ 98 ∷ []
unfolding row erase
row_text = refl

row_turns : turn_count 3 row ≡ 1
unfolding row turn_count some_token up_to_closing
row_turns = refl

-- o1 c1, the sole turn of ((row)*)+ on the empty text, reads nothing
empty_turn : turn_count 1 (1 ∷ 129 ∷ []) ≡ 0
unfolding turn_count some_token up_to_closing
empty_turn = refl

-- o1 o1 b97 c1 o1 b97, a row that no tree has: two openings before one closing, and one that never closes
no_tree_turns : turn_count 1 (1 ∷ 1 ∷ 353 ∷ 129 ∷ 1 ∷ 353 ∷ []) ≡ 2
unfolding turn_count some_token up_to_closing
no_tree_turns = refl

-- o1 c1 b0 c1: the next closing decides
next_closing : turn_count 1 (1 ∷ 129 ∷ 256 ∷ 129 ∷ []) ≡ 0
unfolding turn_count some_token up_to_closing
next_closing = refl

-- 255 and 512 are no byte tokens, 256 and 511 are
no_byte_tokens : turn_count 1 (1 ∷ 255 ∷ 512 ∷ 129 ∷ []) ≡ 0
unfolding turn_count some_token up_to_closing
no_byte_tokens = refl

byte_tokens : turn_count 1 (1 ∷ 256 ∷ 129 ∷ 1 ∷ 511 ∷ 129 ∷ []) ≡ 2
unfolding turn_count some_token up_to_closing
byte_tokens = refl

-- the third and fourth readings to check reach the room
room_none : room_for 1 0 ≡ 2
room_none = refl

room_two : room_for 1 2 ≡ 6
room_two = refl

-- two bytes of text, five cells; a room of eight tokens
cells_left : cleared (97 ∷ 98 ∷ []) (7 ∷ 7 ∷ 7 ∷ 7 ∷ 7 ∷ []) ≡ 0 ∷ 0 ∷ 0 ∷ 7 ∷ 7 ∷ []
cells_left = refl

room_left : written row (9 ∷ 9 ∷ 9 ∷ 9 ∷ 9 ∷ 9 ∷ 9 ∷ 9 ∷ []) ≡ 1 ∷ 353 ∷ 129 ∷ 3 ∷ 354 ∷ 131 ∷ 9 ∷ 9 ∷ []
unfolding row
room_left = refl

-- the desk: (a|ab)b?, byte 10, ab
input : List ℕ
input = 40 ∷ 97 ∷ 124 ∷ 97 ∷ 98 ∷ 41 ∷ 98 ∷ 63 ∷ 10 ∷ 97 ∷ 98 ∷ []

input_pattern : pattern_in input ≡ 40 ∷ 97 ∷ 124 ∷ 97 ∷ 98 ∷ 41 ∷ 98 ∷ 63 ∷ []
unfolding input pattern_in
input_pattern = refl

input_text : text_in input ≡ 97 ∷ 98 ∷ []
unfolding input text_in
input_text = refl

-- no byte 10: all is pattern
no_line : text_in (97 ∷ []) ≡ []
unfolding text_in
no_line = refl

-- a second byte 10 is text
two_lines : text_in (97 ∷ 10 ∷ 10 ∷ 98 ∷ []) ≡ 10 ∷ 98 ∷ []
unfolding text_in
two_lines = refl

-- ANSWER 0 6 1, TREE o1 b97 c1 o3 b98 c3
output : desk_lines 0 6 1 row ≡ 65 ∷ 78 ∷ 83 ∷ 87 ∷ 69 ∷ 82 ∷ 32 ∷ 48 ∷ 32 ∷ 54 ∷ 32 ∷ 49 ∷ 10 ∷
    84 ∷ 82 ∷ 69 ∷ 69 ∷ 32 ∷ 111 ∷ 49 ∷ 32 ∷ 98 ∷ 57 ∷ 55 ∷ 32 ∷ 99 ∷ 49 ∷ 32 ∷ 111 ∷ 51 ∷ 32 ∷ 98 ∷ 57 ∷ 56 ∷ 32 ∷ 99 ∷ 51 ∷ 10 ∷ []
unfolding row desk_lines answer_line tree_line tokens token digits
output = refl

-- an empty row gives TREE alone, a refusal no second line
no_tokens : desk_lines 0 0 0 [] ≡ 65 ∷ 78 ∷ 83 ∷ 87 ∷ 69 ∷ 82 ∷ 32 ∷ 48 ∷ 32 ∷ 48 ∷ 32 ∷ 48 ∷ 10 ∷ 84 ∷ 82 ∷ 69 ∷ 69 ∷ 10 ∷ []
unfolding desk_lines answer_line tree_line tokens digits
no_tokens = refl

refusal : desk_lines 9 8194 0 [] ≡ 65 ∷ 78 ∷ 83 ∷ 87 ∷ 69 ∷ 82 ∷ 32 ∷ 57 ∷ 32 ∷ 56 ∷ 49 ∷ 57 ∷ 52 ∷ 32 ∷ 48 ∷ 10 ∷ []
unfolding desk_lines answer_line digits
refusal = refl

-- o1 a b c1 o1 a c1: three bytes in two turns, the longer of two; and o1 o1 a c1, where both openings have the byte
bytes_of_turns : bytes_read 1 (1 ∷ 353 ∷ 354 ∷ 129 ∷ 1 ∷ 353 ∷ 129 ∷ []) ≡ 3
unfolding bytes_read some_token up_to_closing bytes_in
bytes_of_turns = refl

longest_of_turns : longest_turn 1 (1 ∷ 353 ∷ 354 ∷ 129 ∷ 1 ∷ 353 ∷ 129 ∷ []) ≡ 2
unfolding longest_turn some_token up_to_closing bytes_in
longest_of_turns = refl

no_tree_bytes : bytes_read 1 (1 ∷ 1 ∷ 353 ∷ 129 ∷ []) ≡ 2
unfolding bytes_read some_token up_to_closing bytes_in
no_tree_bytes = refl

-- a night under (a|b)*: the reports ab, an empty one and x
night_reports : reports_in (2 ∷ 0 ∷ 1 ∷ []) (97 ∷ 98 ∷ 120 ∷ []) ≡ (97 ∷ 98 ∷ []) ∷ [] ∷ (120 ∷ []) ∷ []
unfolding reports_in
night_reports = refl

-- the rows that count: o1 o2 a c2 c1 o1 o3 b c3 c1, and two that are empty
night_rows : List (List ℕ)
night_rows = (1 ∷ 2 ∷ 353 ∷ 130 ∷ 129 ∷ 1 ∷ 3 ∷ 354 ∷ 131 ∷ 129 ∷ []) ∷ [] ∷ [] ∷ []

night_records : List Record
night_records = record { turns = 2; bytes = 2; longest = 1 } ∷ record { turns = 1; bytes = 1; longest = 1 } ∷ record { turns = 1; bytes = 1; longest = 1 } ∷ []

night_figures : tonight (star (alt (branch (pos (only 97))) (branch (pos (only 98))))) night_rows ≡ night_records
unfolding night_rows night_records marks records sum greatest turn_count bytes_read longest_turn some_token up_to_closing bytes_in
night_figures = refl

-- 3, 0, 0, 8; 3, 2, 2, 1, 1, 1, 1, 1, 1, 1; 3, -3, 0, +1
night_sheet : sheet_text (0 ∷ 0 ∷ 8 ∷ []) night_records (5 ∷ 1 ∷ 0 ∷ []) ≡ 51 ∷ 10 ∷ 48 ∷ 10 ∷ 48 ∷ 10 ∷ 56 ∷ 10 ∷
    51 ∷ 10 ∷ 50 ∷ 10 ∷ 50 ∷ 10 ∷ 49 ∷ 10 ∷ 49 ∷ 10 ∷ 49 ∷ 10 ∷ 49 ∷ 10 ∷ 49 ∷ 10 ∷ 49 ∷ 10 ∷ 49 ∷ 10 ∷
    51 ∷ 10 ∷ 45 ∷ 51 ∷ 10 ∷ 48 ∷ 10 ∷ 43 ∷ 49 ∷ 10 ∷ []
unfolding night_records sheet_text lines mark_lines change_lines digits
night_sheet = refl

-- no report, and a pattern without marks
empty_sheet : sheet_text [] [] [] ≡ 48 ∷ 10 ∷ 48 ∷ 10 ∷ 48 ∷ 10 ∷ []
unfolding sheet_text lines mark_lines change_lines digits
empty_sheet = refl

-- The answer of a listing into so much room, and the word at a place of the code.
use Rattle.std.specs.Prelude.{ℕ, ◌+◌, List, length, slice_index}
use Rattle.machine.specs.Listing.{word_from, room_for, written_of}
use Rattle.listing.specs.declared.code.Listed.{Listed}

unfoldable pub listed_of : ℕ → List ℕ → ℕ → Listed
listed_of at code room = record { used = room_for at code room; written = length (written_of at code room) }

abbrev pub word_at : List ℕ → ℕ → ℕ
word_at code i = word_from (slice_index code i) (slice_index code (i + 1)) (slice_index code (i + 2)) (slice_index code (i + 3))

-- What a reader's code comes to at a writer, where the bytes of both are known.
use Rattle.std.specs.Prelude.{ℕ, ◌%◌, ◌<◌, ◌≡◌, List, ◌++◌, length, ⊤, Option, Some, None}
use Rattle.machine.specs.Listing.{lines_of, tail_of}

-- the whole listing of code whose first byte has an offset
abbrev pub listing_from : ℕ → List ℕ → List ℕ
listing_from at code = lines_of at code ++ tail_of (length code % 4)

-- a writer held bytes and was owed a; now it holds others and is owed b
abbrev pub Owes : Option (List ℕ) → Option (List ℕ) → List ℕ → List ℕ → Type 0
Owes None new a b = ⊤
Owes (Some xs) None a b = ⊥
Owes (Some xs) (Some ys) a b = xs ++ a ≡ ys ++ b

-- a reader gave some bytes; a writer was owed the listing of the bytes held over and of all that the reader gives, and is
-- still owed that of what is left
abbrev pub Moves : Option (List ℕ) → Option (List ℕ) → Option (List ℕ) → Option (List ℕ) → ℕ → ℕ → List ℕ → List ℕ → Type 0
Moves None left old new at next held kept = ⊤
Moves (Some xs) None old new at next held kept = ⊥
Moves (Some xs) (Some ys) old new at next held kept =
    Owes old new (listing_from at (held ++ xs)) (listing_from next (kept ++ ys)) × (length ys < length xs)

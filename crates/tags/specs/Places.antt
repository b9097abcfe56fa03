-- The tag of any entry, legal or not.
use Rattle.std.specs.Prelude.{ℕ, Bool, cond, ◌&&◌, leb, Option, Some, None}
use Rattle.machine.specs.Entry.{is_legal}
use Rattle.machine.specs.Span.{is_level}
use Rattle.machine.specs.Tag.{tag_of}
use Rattle.machine.specs.declared.entry.Entry.{Entry}

-- processor, granule and level have places in a tag, as those of every legal entry do
unfoldable pub has_places : Entry → Bool
has_places e = leb e.processor 7 && leb e.granule 3 && is_level e.level

-- 0, which is no tag, where they have none
abbrev pub placed_tag : Entry → ℕ
placed_tag e = cond (has_places e) (tag_of e) 0

-- of a legal one alone
abbrev pub legal_tag : Entry → Option ℕ
legal_tag e = cond (is_legal e) (Some (tag_of e)) None

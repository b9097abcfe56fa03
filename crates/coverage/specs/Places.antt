-- The places that a search looks at: a processor, a kind of entry, and a span by its number.
use Rattle.std.specs.Prelude.{ℕ, ◌/◌, ◌^◌, ◌<◌, Bool, true, false, not, ◌&&◌, ◌||◌, List, ◌≡◌, ℤ}
use Rattle.machine.specs.Span.{exponent_of, has_span}
use Rattle.machine.specs.declared.entry.Entry.{Entry}
use Rattle.machine.specs.declared.judge.Target.{Target}
use Rattle.machine.specs.declared.work.Work.{Work}
use Rattle.steps.specs.Steps.{work_at}
use Rattle.machine.specs.Goes.{goes}

-- the kind is asked for, and has a span
unfoldable pub is_asked : Target → Bool → ℤ → Bool
is_asked t leaf l = (not t.leaves || leaf) && has_span t.wide t.granule l

abbrev pub exponent_in : Target → ℤ → ℕ
exponent_in t l = exponent_of t.wide t.granule l

-- the entry at a place: XS 1, not global, with an ASID
abbrev pub placed : Target → ℕ → ℕ → Bool → ℤ → ℕ → Entry
placed t asid p leaf l base = record {
  processor = p;
  company = t.company;
  asid = asid;
  global = false;
  wide = t.wide;
  granule = t.granule;
  level = l;
  leaf = leaf;
  xs = true;
  base = base;
}

-- a work drops the entry e, and q is the number of the last span of 2^k bytes that it meets
pub record CoversTo (works : List Work) (n : ℕ) (e : Entry) (k q : ℕ) : Type 0 where
  pub place : ℕ
  pub within : place < n
  pub goes : goes (work_at works place) e ≡ true
  pub end : q ≡ (work_at works place).last / 2 ^ k
  pub most : q < 2 ^ 52

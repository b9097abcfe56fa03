-- The marked examples m1 to m12 as inputs and answers, and what each says of the calls.
use Prim.Native.Nat.{ℕ}
use mathlib.Core.Bool.{true, false, ◌&&◌}
use mathlib.Core.List.{List, [], ◌∷◌, ◌++◌}
use mathlib.Core.Path.{◌≡◌}
use lib.Dec.{eqb}
use lib.IntN.{ℤ, pos}
use Rattle.std.specs.Prelude.{None, Result, ⊤}
use Rattle.machine.proofs.Sample.{two, three, NV, no_lpa2, three-processors, state_on, at, guest, page, placed_of, slot, zeros}
use Rattle.machine.specs.Answer.{number_of, trap_of, value_of, judged_number, judged_entry, no_entry}
use Rattle.machine.specs.Execute.{resolved_of, on_work}
use Rattle.machine.specs.State.{bad_state}
use Rattle.machine.specs.declared.entry.Entry.{Entry}
use Rattle.machine.specs.declared.judge.Target.{Target}
use Rattle.machine.specs.declared.processor.State.{State}
use Rattle.calls.specs.Promises.{Executes, Judges}
use Rattle.machine.specs.declared.refusal.Refusal.{Refusal}
use Rattle.machine.specs.declared.judge.Objection.{Objection}

-- An example: what goes in, and what comes out.
pub data Example : Type 0 where
  -- a state, an instruction word and Xt; first and last address of the range
  range : State → ℕ → ℕ → ℕ → ℕ → Example
  -- a state, an instruction word, Xt and a table; the answer, the number of a trap, the slots dropped, and the table after
  execution : State → ℕ → ℕ → List ℕ → ℕ → ℕ → ℕ → List ℕ → Example
  -- a state, a target and a list; the answer and the surviving entry
  judgement : State → Target → List ℕ → ℕ → Entry → Example

-- "RVAAE1IS run from EL1, ..., no LPA2"; "LPA2 and DS"; EL1 with EL2 enabled and NV; EL3 with EL2 disabled
abbrev guesting : State
guesting = at 1 (two ∷ no_lpa2 ∷ [])

abbrev with_ds : State
with_ds = state_on three-processors (record { el1 = true; el2 = false; el3 = false; stage2 = false }) 1 (two ∷ [])

abbrev nested : State
nested = at 1 (two ∷ NV ∷ no_lpa2 ∷ [])

abbrev secure : State
secure = at 3 (two ∷ three ∷ NV ∷ no_lpa2 ∷ [])

-- a slot of a 4K page of the guest, of a leaf of any granule and level, and of a non-leaf entry
abbrev paged : ℕ → List ℕ
paged base = slot (page guest base) 5

abbrev leaf : ℕ → ℤ → ℕ → List ℕ
leaf tg l base = slot (placed_of false tg l true false base) 5

abbrev branch : ℕ → ℤ → List ℕ
branch tg l = slot (placed_of false tg l false false 0) 5

-- "target 0x40000000 to 0x40003FFF, all ASIDs, 64-bit 4K, all levels, the step's company, IS reaching every named processor"
abbrev target : Target
target = record { company = guest; wide = false; granule = 1; asid = None; leaves = false; processors = 3; first = 0x40000000; last = 0x40003FFF }

-- "level 3 leaf at 0x40002000"
abbrev survivor : Entry
survivor = record { processor = 0; company = guest; asid = 0; global = false; wide = false; granule = 1; level = pos 3; leaf = true; xs = true; base = 0x40002000 }

-- m1 to m12; the tables show which pages on both sides of a range's ends go, and what a refusal leaves
abbrev pub examples : List Example
examples =
    -- "m1 0x0000400000040000: 0x40000000 to 0x40001FFF."
    range guesting 0xD5088260 0x0000400000040000 0x40000000 0x40001FFF
    ∷ execution guesting 0xD5088260 0x0000400000040000 (paged 0x3FFFF000 ++ paged 0x40000000 ++ paged 0x40001000 ++ paged 0x40002000) 0 0 2
    (paged 0x3FFFF000 ++ zeros ++ zeros ++ paged 0x40002000)
    -- "m2 0x00007F8000000000: 0 to 0x1FFFFFFFF."
    ∷ range guesting 0xD5088260 0x00007F8000000000 0 0x1FFFFFFFF
    ∷ execution guesting 0xD5088260 0x00007F8000000000 (paged 0 ++ paged 0x1FFFFF000 ++ paged 0x200000000) 0 0 2 (zeros ++ zeros ++ paged 0x200000000)
    -- "m3 0x0000401FFFFFFFFF: only the last 4 KiB below 2^64."
    ∷ range guesting 0xD5088260 0x0000401FFFFFFFFF 0xFFFFFFFFFFFFF000 0xFFFFFFFFFFFFFFFF
    ∷ execution guesting 0xD5088260 0x0000401FFFFFFFFF (paged 0xFFFFFFFFFFFFE000 ++ paged 0xFFFFFFFFFFFFF000 ++ paged 0) 0 0 1
    (paged 0xFFFFFFFFFFFFE000 ++ zeros ++ paged 0)
    -- "m4 0x0000404000040001: 7."
    ∷ execution guesting 0xD5088260 0x0000404000040001 (leaf 1 (pos 2) 0x40000000) 7 0 0 (leaf 1 (pos 2) 0x40000000)
    -- "m5 0x0000404000040000: a 64-bit 4K level 2 leaf at 0x40000000 goes, a level 3 leaf there stays."
    ∷ execution guesting 0xD5088260 0x0000404000040000 (leaf 1 (pos 2) 0x40000000 ++ leaf 1 (pos 3) 0x40000000) 0 0 1 (zeros ++ leaf 1 (pos 3) 0x40000000)
    -- "m6 0x0000000000040000: 6."
    ∷ execution guesting 0xD5088260 0x0000000000040000 (paged 0x40000000) 6 0 0 (paged 0x40000000)
    -- "m7 LPA2 and DS, 0x0000400000004000: as m1."
    ∷ range with_ds 0xD5088260 0x0000400000004000 0x40000000 0x40001FFF
    ∷ execution with_ds 0xD5088260 0x0000400000004000 (paged 0x3FFFF000 ++ paged 0x40000000 ++ paged 0x40001000 ++ paged 0x40002000) 0 0 2
    (paged 0x3FFFF000 ++ zeros ++ zeros ++ paged 0x40002000)
    -- "m8 0x0000802000000001: 0x4000 to 0xBFFF, any level."
    ∷ range guesting 0xD5088260 0x0000802000000001 0x4000 0xBFFF
    ∷ execution guesting 0xD5088260 0x0000802000000001 (leaf 2 (pos 3) 0 ++ leaf 2 (pos 3) 0x4000 ++ leaf 2 (pos 3) 0x8000 ++ leaf 2 (pos 3) 0xC000) 0 0 2
    (leaf 2 (pos 3) 0 ++ zeros ++ zeros ++ leaf 2 (pos 3) 0xC000)
    ∷ execution guesting 0xD5088260 0x0000802000000001 (leaf 2 (pos 1) 0 ++ leaf 2 (pos 2) 0 ++ branch 2 (pos 0) ++ branch 2 (pos 1) ++ branch 2 (pos 2)) 0 0 5
    (zeros ++ zeros ++ zeros ++ zeros ++ zeros)
    -- "m9 D54C80C0 with D128 at EL1, EL2 enabled, NV: 4, 0x14."
    ∷ execution nested 0xD54C80C0 0x0000400000040000 (paged 0x40000000) 4 0x14 0 (paged 0x40000000)
    -- "m10 the same at EL3, EL2 disabled: 5."
    ∷ execution secure 0xD54C80C0 0x0000400000040000 (paged 0x40000000) 5 0 0 (paged 0x40000000)
    -- "m11 ... step D5088260 with m1: 12, level 3 leaf at 0x40002000."
    ∷ judgement guesting target (0xD5088260 ∷ 0x0000400000040000 ∷ 0 ∷ []) 12 survivor
    -- "m12 the same with 0x0000408000040000: accepted."
    ∷ judgement guesting target (0xD5088260 ∷ 0x0000408000040000 ∷ 0 ∷ []) 0 no_entry
    ∷ []

-- What an example says of the calls: whatever keeps their promises gives these numbers, this table and this entry.
abbrev pub Shows : Example → Type 0
Shows (range st word xt start end) = (bad_state st ≡ false) × (on_work (λ w. eqb w.first start && eqb w.last end) (resolved_of st word xt 0) ≡ true)
Shows (execution st word xt l number trap dropped after) =
    (r : Result ℕ Refusal) (m : List ℕ) → Executes st word xt 0 l r m →
    (number_of r ≡ number) × (trap_of r ≡ trap) × (value_of r ≡ dropped) × (m ≡ after)
Shows (judgement st t steps number e) = (r : Result ⊤ Objection) → Judges st t steps r → (judged_number r ≡ number) × (judged_entry r ≡ e)

pub data All (P : Example → Type 0) : List Example → Type 0 where
  none : All P []
  more : {e : Example} {es : List Example} → P e → All P es → All P (e ∷ es)

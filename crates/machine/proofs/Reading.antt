-- A slot read back: its answer case by case, its number, and that what was inserted reads back.
use Rattle.std.specs.Prelude.{Ok, Err, Result}
use Prim.Native.Nat.{ℕ, ◌+◌, ◌*◌, ◌/◌, ◌<◌, ◌≤◌}
use mathlib.Core.Bool.{Bool, true, false, cond, not}
use mathlib.Core.List.{List}
use mathlib.Core.Path.{◌≡◌, refl, sym, ap, ap₂, subst, ◌∙◌}
use lib.Dec.{ltb}
use lib.ListN.{get_or}
use borrow.Author.Tests.{lt-ltb, le-ltb}
use Rattle.laws.specs.Slots.{slots, holds_at}
use Rattle.machine.proofs.Inserting.{taken, taken-reads, insert-done}
use Rattle.machine.specs.Answer.{number_of}
use Rattle.machine.specs.Table.{has_shape, is_table, slot_reads, slot_entry, slot_read_of, inserted_of, insert_table}
use Rattle.machine.specs.Tag.{Sized}
use Rattle.machine.specs.declared.entry.Entry.{Entry}
use Rattle.machine.specs.declared.refusal.Refusal.TheVariants as refusal
use Rattle.machine.specs.declared.refusal.Refusal.{Refusal}

pub slot-13 : (k : ℕ) (l : List ℕ) → is_table l ≡ false → slot_read_of k l ≡ Err refusal.BadShape
unfolding slot_read_of
slot-13 k l h = simp h

pub slot-8 : (k : ℕ) (l : List ℕ) → is_table l ≡ true → slots l ≤ k → slot_read_of k l ≡ Err refusal.NoSlot
unfolding slot_read_of
slot-8 k l h n = simp (h, le-ltb k (slots l) n)

pub slot-14 : (k : ℕ) (l : List ℕ) → is_table l ≡ true → k < slots l → holds_at slot_reads l k ≡ false → slot_read_of k l ≡ Err refusal.Empty
unfolding slot_read_of
slot-14 k l h n e = simp (h, lt-ltb k (slots l) n, e)

pub slot-0 : (k : ℕ) (l : List ℕ) → is_table l ≡ true → k < slots l → holds_at slot_reads l k ≡ true → slot_read_of k l ≡ Ok (slot_entry l k, get_or l (3 * k + 2) 0)
unfolding slot_read_of
slot-0 k l h n e = simp (h, lt-ltb k (slots l) n, e)

-- 13, 8 where there is no such slot, 14 where it reads as empty
pub slot-answer : (k : ℕ) (l : List ℕ) →
    number_of (slot_read_of k l) ≡ cond (not (is_table l)) 13 (cond (not (ltb k (slots l))) 8 (cond (not (holds_at slot_reads l k)) 14 0))
unfolding slot_read_of
slot-answer k l = go (is_table l) (ltb k (slots l)) (holds_at slot_reads l k) refl refl refl
  where
    go : (a b c : Bool) → is_table l ≡ a → ltb k (slots l) ≡ b → holds_at slot_reads l k ≡ c →
        number_of (cond (is_table l) (cond (ltb k (slots l)) (cond {A = Result (Entry × ℕ) Refusal} (holds_at slot_reads l k) (Ok (slot_entry l k, get_or l (3 * k + 2) 0)) (Err refusal.Empty)) (Err refusal.NoSlot)) (Err refusal.BadShape))
        ≡ cond (not (is_table l)) 13 (cond (not (ltb k (slots l))) 8 (cond (not (holds_at slot_reads l k)) 14 0))
    go false b c x y z = simp x
    go true false c x y z = simp (x, y)
    go true true false x y z = simp (x, y, z)
    go true true true x y z = simp (x, y, z)

-- "a slot that insert wrote reads back as every field and the output word it was given"
pub inserted-back : (e : Entry) (out : ℕ) (l : List ℕ) (k : ℕ) → Sized e → inserted_of e l ≡ Ok k → slot_read_of k (insert_table e out l) ≡ Ok (e, out)
inserted-back e out l k z h =
    let it = taken e out l k h in
    let m : List ℕ = insert_table e out l in
    let (reads, entry, output) = taken-reads e out l k z h in
    let shape : is_table m ≡ true = ap (has_shape 6144) it.as_long ∙ (insert-done e l k h).0 in
    let low : k < slots m = subst (λ (n : ℕ). k < n / 3) (sym it.as_long) it.within in
    slot-0 k m shape low reads ∙ ap₂ (λ (x : Entry) (y : ℕ). Ok (x, y)) entry output

-- Demand 2: "Operands are also written from their fields, and reading one back gives the same fields."; and the same of instruction words and of slots.
use Prim.Native.Nat.{ℕ, ◌+◌, ◌*◌, ◌<◌, ◌≤◌, ◌^◌}
use mathlib.Core.Bool.{true, false}
use mathlib.Core.List.{List}
use mathlib.Core.Logic.{◌↔◌}
use mathlib.Core.Path.{◌≡◌, sym, ap, ◌∙◌}
use lib.ListN.{get_or}
use Rattle.std.specs.Prelude.{Option, Some, None, Result, Ok, Err}
use Rattle.laws.specs.Slots.{slots, holds_at}
use Rattle.machine.proofs.Fields.{read-written, written_read, refused-unread}
use Rattle.machine.proofs.Found.{Seen, seen, unseen, inserted-found}
use Rattle.machine.proofs.Inserting.{Taken, taken, taken-reads}
use Rattle.machine.proofs.Reading.{inserted-back}
use Rattle.machine.proofs.Trip.{built-word, built-reads, read-builds, read-far}
use Rattle.machine.specs.Operand.{stays_xt, stays_xt2, cleared}
use Rattle.machine.specs.State.{bad_state}
use Rattle.machine.specs.Table.{slot_entry, stage1_of, translates, matches, looked_up_of, slot_reads, is_table, slot_read_of}
use Rattle.machine.specs.Tag.{Sized}
use Rattle.machine.specs.Word.{read_of}
use Rattle.machine.specs.declared.entry.Entry.{Entry}
use Rattle.machine.specs.declared.operand.Operand.{Operand}
use Rattle.machine.specs.declared.operand.Told.{Told}
use Rattle.machine.specs.declared.operation.Operation.{Operation}
use Rattle.machine.specs.declared.processor.State.{State}
use Rattle.machine.specs.declared.scope.Regime.{Regime}
use Rattle.machine.specs.declared.table.Match.{Match}
use Rattle.calls.specs.Promises.{Decodes, Builds, Reads, Writes, Inserts, LooksUp, ReadsSlot}
use Rattle.machine.specs.declared.refusal.Refusal.{Refusal}
use Rattle.machine.specs.declared.refusal.Refusal.TheVariants as refusal

-- reading what was written gives the same fields
pub operand-back : (t : Told) (o : Operand) (xt xt2 : ℕ) (r : Result Operand Refusal) → Writes t o (Ok (xt, xt2)) → Reads t xt xt2 r → r ≡ Ok o
operand-back t o xt xt2 r w h = h ∙ read-written t o xt xt2 (sym w)

-- "Writing what was read gives the word with RES0 bits, ignored bits and such a TTL cleared."
pub operand-again : (t : Told) (xt xt2 : ℕ) (o : Operand) (r : Result (ℕ × ℕ) Refusal) → Reads t xt xt2 (Ok o) → Writes t o r →
    r ≡ Ok (cleared (stays_xt t xt) xt, cleared (stays_xt2 t xt) xt2)
operand-again t xt xt2 o r h w = w ∙ written_read t xt xt2 o (sym h)

-- what the writer refuses no words read as
pub operand-refused : (t : Told) (o : Operand) → Writes t o (Err refusal.Illegal) → (xt xt2 : ℕ) → Reads t xt xt2 (Ok o) → ⊥
operand-refused t o w xt xt2 h = refused-unread t o (sym w) xt xt2 (sym h)

-- a word that was built is decoded as the operation, and only that word is
pub word_back : (op : Operation) (word : ℕ) (r : Option Operation) → Builds op (Some word) → Decodes word r → r ≡ Some op
word_back op word r b h =
    let (low, same) = built-word op word (sym b) in
    h ∙ ap read_of (sym same) ∙ built-reads op low

pub word-again : (word : ℕ) (op : Operation) → Decodes word (Some op) → Builds op (Some word)
word-again word op h = sym (read-builds word op (sym h))

-- "instruction (2^32 or more is answer 1)"
pub word-far : (word : ℕ) (r : Option Operation) → 2 ^ 32 ≤ word → Decodes word r → r ≡ None
word-far word r far h = h ∙ read-far word far

-- "Insert takes and returns the lowest slot that reads as empty."
pub slot-taken : (e : Entry) (out : ℕ) (l : List ℕ) (k : ℕ) (m : List ℕ) → Inserts e out l (Ok k) m → Taken e out l k
slot-taken e out l k m h = taken e out l k (sym h.0)

-- "a slot that insert wrote reads back as every field and the output word it was given"
pub slot-back : (e : Entry) (out : ℕ) (l : List ℕ) (k : ℕ) (m : List ℕ) → Sized e → Inserts e out l (Ok k) m →
    (holds_at slot_reads m k ≡ true) × (slot_entry m k ≡ e) × (get_or m (3 * k + 2) 0 ≡ out)
slot-back e out l k m z h =
    let (reads, entry, output) = taken-reads e out l k z (sym h.0) in
    (ap (λ (t : List ℕ). holds_at slot_reads t k) h.1 ∙ reads, ap (λ (t : List ℕ). slot_entry t k) h.1 ∙ entry, ap (λ (t : List ℕ). get_or t (3 * k + 2) 0) h.1 ∙ output)

pub slot-read-back : (e : Entry) (out : ℕ) (l : List ℕ) (k : ℕ) (m : List ℕ) (r : Result (Entry × ℕ) Refusal) (n : List ℕ) → Sized e → Inserts e out l (Ok k) m → ReadsSlot k m r n → r ≡ Ok (e, out)
slot-read-back e out l k m r n z i s = s.0 ∙ ap (slot_read_of k) i.1 ∙ inserted-back e out l k z (sym i.0)

-- "it finds the lowest slot ..."; "It returns the slot, output word and slots examined: position plus one"
pub slot-found : (st : State) (g : Regime) (asid address : ℕ) (l : List ℕ) (f : Match) (m : List ℕ) → LooksUp st g asid address l (Ok f) m →
    Seen st g asid address l f
slot-found st g asid address l f m h = seen st g asid address l f (sym h.0)

-- 14 with all slots examined exactly where none matches: "position plus one, or all"
pub slot-unseen : (st : State) (g : Regime) (asid address : ℕ) (l : List ℕ) (r : Result Match Refusal) (m : List ℕ) → LooksUp st g asid address l r m → is_table l ≡ true →
    bad_state st ≡ false → (r ≡ Err (refusal.NotFound (slots l))) ↔ ((k : ℕ) → k < slots l → holds_at (matches (stage1_of st g) st.board.own asid address) l k ≡ false)
slot-unseen st g asid address l r m h shape good =
    let (there, back) = unseen st g asid address l shape good in (
      λ (e : r ≡ Err (refusal.NotFound (slots l))). there (sym h.0 ∙ e),
      λ (none : (k : ℕ) → k < slots l → holds_at (matches (stage1_of st g) st.board.own asid address) l k ≡ false). h.0 ∙ back none,
    )

-- what was inserted is found where no lower slot matches
pub inserted_seen : (e : Entry) (out : ℕ) (l : List ℕ) (k : ℕ) (m : List ℕ) (st : State) (g : Regime) (asid address : ℕ) (r : Result Match Refusal) (n : List ℕ) → Sized e →
    Inserts e out l (Ok k) m → LooksUp st g asid address m r n → bad_state st ≡ false → translates (stage1_of st g) st.board.own asid address e ≡ true →
    ((j : ℕ) → j < k → holds_at (matches (stage1_of st g) st.board.own asid address) l j ≡ false) →
    r ≡ Ok (record { slot = k; out = out; examined = k + 1 })
inserted_seen e out l k m st g asid address r n z i s good t none =
    s.0 ∙ ap (looked_up_of st g asid address) i.1 ∙ inserted-found e out l k st g asid address z (sym i.0) good t none

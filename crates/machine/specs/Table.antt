-- 01, "Sizes" and "Entries": the shape of tables and lists, insert, and look up.
use Rattle.std.specs.Prelude.{ℕ, ◌+◌, ◌*◌, ◌%◌, Bool, false, cond, not, ◌&&◌, ◌||◌, List, ◌≡◌, eqb, ltb, leb, length, get_or, Result, Ok, Err}
use Rattle.laws.specs.Slots.{slots, holds_at, first, some, put}
use Rattle.machine.specs.declared.entry.Company.{Company}
use Rattle.machine.specs.declared.entry.Entry.{Entry}
use Rattle.machine.specs.declared.processor.State.{State}
use Rattle.machine.specs.declared.scope.Regime.{Regime}
use Rattle.machine.specs.State.{security_in, vmid_in, bad_state}
use Rattle.machine.specs.Span.{in_span}
use Rattle.machine.specs.Entry.{has_asids, span_of, is_legal}
use Rattle.machine.specs.Tag.{flag, regime_number, security_number, tag_of, entry_at, is_entry}
use Rattle.machine.specs.declared.refusal.Refusal.{Refusal}
use Rattle.machine.specs.declared.refusal.Refusal.TheVariants as refusal
use Rattle.machine.specs.declared.table.Match.{Match}

-- "Shape is bad if the words aren't a multiple of three or are over 6,144 or 48.": of so many words, over the most
abbrev pub has_shape : ℕ → ℕ → Bool
has_shape most words = eqb (words % 3) 0 && leb words most

abbrev pub is_table : List ℕ → Bool
is_table l = has_shape 6144 (length l)

-- the entry of slot k, and whether the slot reads as one; the output word has no say
abbrev pub slot_reads : ℕ → ℕ → ℕ → Bool
slot_reads base tag out = is_entry base tag

abbrev pub slot_entry : List ℕ → ℕ → Entry
slot_entry l k = entry_at (get_or l (3 * k) 0) (get_or l (3 * k + 1) 0)

-- three words of slot k; and they are in another table what they are in this one
abbrev pub Holds : List ℕ → ℕ → ℕ → ℕ → ℕ → Type 0
Holds l k a b c = (get_or l (3 * k) 0 ≡ a) × (get_or l (3 * k + 1) 0 ≡ b) × (get_or l (3 * k + 2) 0 ≡ c)

abbrev pub Kept : List ℕ → List ℕ → ℕ → Type 0
Kept l m k = Holds m k (get_or l (3 * k) 0) (get_or l (3 * k + 1) 0) (get_or l (3 * k + 2) 0)

-- a slot "reads back as every field and the output word it was given", or "as empty", if the table has it
unfoldable pub slot_read_of : ℕ → List ℕ → Result (Entry × ℕ) Refusal
slot_read_of k l =
    cond (is_table l)
    (cond (ltb k (slots l)) (cond (holds_at slot_reads l k) (Ok (slot_entry l k, get_or l (3 * k + 2) 0)) (Err refusal.Empty)) (Err refusal.NoSlot))
    (Err refusal.BadShape)

-- "reads as empty"
abbrev pub is_empty : ℕ → ℕ → ℕ → Bool
is_empty base tag out = not (is_entry base tag)

-- "Insert takes and returns the lowest slot that reads as empty." "Insert: 13, 8, 9."
unfoldable pub inserted_of : Entry → List ℕ → Result ℕ Refusal
inserted_of e l =
    cond (is_table l) (cond (is_legal e) (cond (some is_empty l) (Ok (first is_empty l)) (Err refusal.Full)) (Err refusal.Illegal)) (Err refusal.BadShape)

-- what the table holds then: the slot that was taken is the entry's; "Every answer but 0 leaves all lent memory unchanged."
abbrev pub filled : Result ℕ Refusal → Entry → ℕ → List ℕ → List ℕ
filled (Ok k) e out l = put k e.base (tag_of e) out l
filled (Err r) e out l = l

unfoldable pub insert_table : Entry → ℕ → List ℕ → List ℕ
insert_table e out l = filled (inserted_of e l) e out l

-- regime, security state, VMID, stage and IPA space agree
unfoldable pub same_company : Company → Company → Bool
same_company c d =
    eqb (regime_number c.regime) (regime_number d.regime)
    && eqb (security_number c.security) (security_number d.security)
    && eqb c.vmid d.vmid
    && eqb (flag c.stage2) (flag d.stage2)
    && eqb (flag c.ns) (flag d.ns)

-- stage 1 of a regime; "VMID and security state as for an operation"
unfoldable pub stage1_of : State → Regime → Company
stage1_of st r = record { regime = r; security = security_in st r; vmid = vmid_in st r; stage2 = false; ns = false }

-- "a ... leaf of the own processor ... whose span holds the address and whose ASID agrees (or it is global, or the regime has none)"
unfoldable pub holds_address : ℕ → ℕ → ℕ → Entry → Bool
holds_address own asid address e =
    e.leaf
    && eqb e.processor own
    && in_span e.base (span_of e) address
    && (eqb e.asid asid || e.global || not (has_asids e.company))

-- of the company sought
unfoldable pub translates : Company → ℕ → ℕ → ℕ → Entry → Bool
translates c own asid address e = same_company e.company c && holds_address own asid address e

unfoldable pub matches : Company → ℕ → ℕ → ℕ → ℕ → ℕ → ℕ → Bool
matches c own asid address base tag out = is_entry base tag && translates c own asid address (entry_at base tag)

-- "It returns the slot, output word and slots examined: position plus one, or all."
abbrev pub found_at : ℕ → List ℕ → Result Match Refusal
found_at k l = Ok (record { slot = k; out = get_or l (3 * k + 2) 0; examined = k + 1 })

-- the lowest slot that a test holds at, or none
abbrev pub found_by : (ℕ → ℕ → ℕ → Bool) → List ℕ → Result Match Refusal
found_by p l = cond (some p l) (found_at (first p l) l) (Err (refusal.NotFound (slots l)))

-- "Look up: 13, 2, 14."
unfoldable pub looked_up_of : State → Regime → ℕ → ℕ → List ℕ → Result Match Refusal
looked_up_of st r asid address l =
    cond (is_table l) (cond (bad_state st) (Err refusal.BadState) (found_by (matches (stage1_of st r) st.board.own asid address) l)) (Err refusal.BadShape)

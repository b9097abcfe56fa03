-- The C interface: what each function of it promises leaves one number, one record and one content of lent memory, and which.
use Prim.Native.Nat.{ℕ, ◌%◌, ◌^◌, ◌<◌}
use mathlib.Core.Bool.{Bool, true, false, cond}
use mathlib.Core.List.{List}
use mathlib.Core.Path.{◌≡◌, refl, ap, ◌∙◌}
use native.Mathlib.Nat.{mod-lt}
use native.Mathlib.Omega.{arith}
use Rattle.std.specs.Prelude.{Some, None, IfSome, Result, Err}
use Rattle.board.specs.Answers.{Answers, done, listed_words, tailed_words}
use Rattle.calls.specs.Promises.{Decodes, Builds, Reads, Writes, Inserts, LooksUp, ReadsSlot, Executes, Runs, Judges, Lists, Tails}
use Rattle.judge.proofs.Targets.{Fits}
use Rattle.laws.specs.Slots.{slots, first, some}
use Rattle.machine.specs.Answer.{decoded_number, built_number, number_of, judged_number}
use Rattle.machine.specs.Execute.{is_list}
use Rattle.machine.specs.State.{bad_state}
use Rattle.machine.specs.Table.{is_table, stage1_of, matches, found_at, found_by, looked_up_of}
use Rattle.machine.specs.Tag.{regime_at}
use Rattle.machine.specs.declared.processor.State.{State}
use Rattle.machine.specs.declared.scope.Regime.{Regime}
use Rattle.received.proofs.Unfit.{state-unfit, entry-unfit, target-unfit, operation-unfit}
use Rattle.received.specs.Entries.{company_in, entry_fits, entry_in}
use Rattle.received.specs.Numbers.{flag_in, is_regime}
use Rattle.received.specs.Operands.{told_fits, told_in, fields_in}
use Rattle.received.specs.Operations.{operation_fits, operation_in}
use Rattle.received.specs.States.{state_fits, state_in}
use Rattle.received.specs.Targets.{target_fits, target_in}
use Rattle.received.specs.declared.entry.EntryRecord.{EntryRecord}
use Rattle.received.specs.declared.operand.FieldsRecord.{FieldsRecord}
use Rattle.received.specs.declared.operand.ToldRecord.{ToldRecord}
use Rattle.received.specs.declared.operation.OperationRecord.{OperationRecord}
use Rattle.received.specs.declared.state.StateRecord.{StateRecord}
use Rattle.received.specs.declared.target.TargetRecord.{TargetRecord}
use Rattle.returned.specs.Known.{found_number, found_words, read_number_if, read_words_if, written_number_if, written_words_if}
use Rattle.returned.specs.Words.{decoded_words, built_words, inserted_words, slot_words, executed_words, ran_words, judged_words}
use Rattle.demands.proofs.Answered.{decode-one, build-one, read_one, write-one, insert-one, look-up-one, read-slot-one, execute-one, run-one, judge-one, list-one, tail-one}
use Rattle.demands.proofs.Refused.{execute-number, insert-number, run-number, judge-number}
use Rattle.demands.specs.One.{OneAnswer, One}
use Rattle.machine.specs.declared.refusal.Refusal.{Refusal}
use Rattle.machine.specs.declared.refusal.Refusal.TheVariants as refusal
use Rattle.machine.specs.declared.table.Match.{Match}

-- there are a number and a record that keep the promise, and no others: those of the call's one answer
pub record Linked {A : Type 0} (number : A → ℕ) (words : A → List ℕ) (promise : A → Type 0) : Type 0 where
  pub answer : A
  pub kept : Answers number words promise (number answer) (words answer)
  pub only : (r : ℕ) (out : List ℕ) → Answers number words promise r out → (r ≡ number answer) × (out ≡ words answer)

-- and of the memory that was lent besides
pub record LinkedOver {A B : Type 0} (number : A → ℕ) (words : A → List ℕ) (promise : A → B → Type 0) : Type 0 where
  pub answer : A
  pub memory : B
  pub kept : Answers number words (λ (a : A). promise a memory) (number answer) (words answer)
  pub only : (r : ℕ) (out : List ℕ) (m : B) → Answers number words (λ (a : A). promise a m) r out → (r ≡ number answer) × (out ≡ words answer) × (m ≡ memory)

pub linked : {A : Type 0} (number : A → ℕ) (words : A → List ℕ) (promise : A → Type 0) → OneAnswer promise → Linked number words promise
linked number words promise one = record {
  answer = one.answer;
  kept = record { answer = one.answer; kept = one.kept; numbered = refl; told = refl };
  only = λ (r : ℕ) (out : List ℕ) (h : Answers number words promise r out).
      let same = one.only h.answer h.kept in
      (h.numbered ∙ ap number same, h.told ∙ ap words same);
}

pub linked-over : {A B : Type 0} (number : A → ℕ) (words : A → List ℕ) (promise : A → B → Type 0) → One promise → LinkedOver number words promise
linked-over {A} {B} number words promise one = record {
  answer = one.answer;
  memory = one.memory;
  kept = record { answer = one.answer; kept = one.kept; numbered = refl; told = refl };
  only = λ (r : ℕ) (out : List ℕ) (m : B) (h : Answers number words (λ (a : A). promise a m) r out).
      let same = one.only h.answer m h.kept in
      (h.numbered ∙ ap number same.0, h.told ∙ ap words same.0, same.1);
}

-- each function of the interface
pub decode-linked : (word : ℕ) → Linked decoded_number decoded_words (Decodes word)
decode-linked word = linked _ _ _ (decode-one word)

pub build-linked : (o : OperationRecord) → Linked built_number built_words (Builds (operation_in o))
build-linked o = linked _ _ _ (build-one (operation_in o))

pub read-linked : (t : ToldRecord) (xt xt2 : ℕ) → Linked (read_number_if (told_fits t)) (read_words_if (told_fits t)) (Reads (told_in t) xt xt2)
read-linked t xt xt2 = linked _ _ _ (read_one (told_in t) xt xt2)

pub write-linked : (t : ToldRecord) (f : FieldsRecord) → Linked (written_number_if (told_fits t)) (written_words_if (told_fits t)) (Writes (told_in t) (fields_in f))
write-linked t f = linked _ _ _ (write-one (told_in t) (fields_in f))

pub insert-linked : (e : EntryRecord) (output : ℕ) (l : List ℕ) → LinkedOver number_of inserted_words (Inserts (entry_in e) output l)
insert-linked e output l = linked-over _ _ _ (insert-one (entry_in e) output l)

pub look-up-linked : (s : StateRecord) (g asid address : ℕ) (l : List ℕ) →
    LinkedOver (found_number (is_regime g)) (found_words (is_regime g)) (LooksUp (state_in s) (regime_at g) asid address l)
look-up-linked s g asid address l = linked-over _ _ _ (look-up-one (state_in s) (regime_at g) asid address l)

pub read-slot-linked : (k : ℕ) (l : List ℕ) → LinkedOver number_of slot_words (ReadsSlot k l)
read-slot-linked k l = linked-over _ _ _ (read-slot-one k l)

pub execute-linked : (s : StateRecord) (word xt xt2 : ℕ) (l : List ℕ) → LinkedOver number_of executed_words (Executes (state_in s) word xt xt2 l)
execute-linked s word xt xt2 l = linked-over _ _ _ (execute-one (state_in s) word xt xt2 l)

pub run-linked : (s : StateRecord) (steps l : List ℕ) → LinkedOver number_of ran_words (Runs (state_in s) steps l)
run-linked s steps l = linked-over _ _ _ (run-one (state_in s) steps l)

-- a VMID has 16 bits and an address 64, by their types
vmid-low : (s : StateRecord) → s.vmid < 2 ^ 16 → (state_in s).vmid < 2 ^ 16
unfolding state_in
vmid-low s low = low

asid-low : (one : Bool) (a : ℕ) → IfSome (cond one (Some (a % 65536)) None) (λ n. n < 2 ^ 16)
asid-low true a = mod-lt a (omega arith)
asid-low false a = tt

target-sized : (t : TargetRecord) → t.first < 2 ^ 64 → t.last < 2 ^ 64 → Fits (target_in t)
unfolding target_in company_in
target-sized t first last = record { vmid = mod-lt t.company.vmid (omega arith); asid = asid-low (flag_in t.one) t.asid; first = first; last = last }

pub judge-linked : (s : StateRecord) (t : TargetRecord) (steps : List ℕ) → s.vmid < 2 ^ 16 → t.first < 2 ^ 64 → t.last < 2 ^ 64 →
    Linked judged_number judged_words (Judges (state_in s) (target_in t) steps)
judge-linked s t steps low first last = linked _ _ _ (judge-one (state_in s) (target_in t) steps (vmid-low s low) (target-sized t first last))

pub list-linked : (code : List ℕ) (at : ℕ) (room : List ℕ) → LinkedOver done listed_words (Lists code at room)
list-linked code at room = linked-over _ _ _ (list-one code at room)

pub tail-linked : (left : ℕ) (room : List ℕ) → LinkedOver done tailed_words (Tails left room)
tail-linked left room = linked-over _ _ _ (tail-one left room)

-- a value that no field can have is answered 2 in a state and 8 elsewhere, like any other bad state, entry or target; 13 comes first
pub execute-unfit : (s : StateRecord) (word xt xt2 : ℕ) (l : List ℕ) (r : ℕ) (out m : List ℕ) →
    Answers number_of executed_words (λ (a : Result ℕ Refusal). Executes (state_in s) word xt xt2 l a m) r out → is_table l ≡ true → state_fits s ≡ false → r ≡ 2
execute-unfit s word xt xt2 l r out m h shape f = h.numbered ∙ execute-number (state_in s) word xt xt2 l h.answer m h.kept ∙ simp (shape, state-unfit s f)

pub run-unfit : (s : StateRecord) (steps l : List ℕ) (r : ℕ) (out m : List ℕ) → Answers number_of ran_words (λ (a : Result ℕ Refusal). Runs (state_in s) steps l a m) r out → is_table l ≡ true →
    is_list steps ≡ true → state_fits s ≡ false → r ≡ 2
run-unfit s steps l r out m h shape few f = h.numbered ∙ run-number (state_in s) steps l h.answer m h.kept ∙ simp (shape, few, state-unfit s f)

pub judge-unfit : (s : StateRecord) (t : TargetRecord) (steps : List ℕ) (r : ℕ) (out : List ℕ) → s.vmid < 2 ^ 16 →
    Answers judged_number judged_words (Judges (state_in s) (target_in t) steps) r out → is_list steps ≡ true → state_fits s ≡ false → r ≡ 2
judge-unfit s t steps r out low h few f = h.numbered ∙ judge-number (state_in s) (target_in t) steps h.answer (vmid-low s low) h.kept ∙ simp (few, state-unfit s f)

pub judge-unfit-target : (s : StateRecord) (t : TargetRecord) (steps : List ℕ) (r : ℕ) (out : List ℕ) → s.vmid < 2 ^ 16 →
    Answers judged_number judged_words (Judges (state_in s) (target_in t) steps) r out → is_list steps ≡ true → bad_state (state_in s) ≡ false → target_fits t ≡ false → r ≡ 8
judge-unfit-target s t steps r out low h few good f =
    h.numbered ∙ judge-number (state_in s) (target_in t) steps h.answer (vmid-low s low) h.kept ∙ simp (few, good, target-unfit (state_in s) t f)

pub insert-unfit : (e : EntryRecord) (output : ℕ) (l : List ℕ) (r : ℕ) (out m : List ℕ) →
    Answers number_of inserted_words (λ (a : Result ℕ Refusal). Inserts (entry_in e) output l a m) r out → is_table l ≡ true → entry_fits e ≡ false → r ≡ 8
insert-unfit e output l r out m h shape f = h.numbered ∙ insert-number (entry_in e) output l h.answer m h.kept ∙ simp (shape, entry-unfit e f)

pub build-unfit : (o : OperationRecord) (r : ℕ) (out : List ℕ) → Answers built_number built_words (Builds (operation_in o)) r out → operation_fits o ≡ false → r ≡ 8
build-unfit o r out h f = h.numbered ∙ ap built_number (h.kept ∙ operation-unfit o f)

pub read-unfit : (t : ToldRecord) (xt xt2 : ℕ) (r : ℕ) (out : List ℕ) →
    Answers (read_number_if (told_fits t)) (read_words_if (told_fits t)) (Reads (told_in t) xt xt2) r out → told_fits t ≡ false → r ≡ 8
read-unfit t xt xt2 r out h f = h.numbered ∙ ap (λ (b : Bool). read_number_if b h.answer) f

pub write-unfit : (t : ToldRecord) (g : FieldsRecord) (r : ℕ) (out : List ℕ) →
    Answers (written_number_if (told_fits t)) (written_words_if (told_fits t)) (Writes (told_in t) (fields_in g)) r out → told_fits t ≡ false → r ≡ 8
write-unfit t g r out h f = h.numbered ∙ ap (λ (b : Bool). written_number_if b h.answer) f

-- of a search, whatever it found
searched : (st : State) (g : Regime) (asid address : ℕ) (l : List ℕ) → is_table l ≡ true → bad_state st ≡ false → found_number false (looked_up_of st g asid address l) ≡ 8
unfolding looked_up_of
searched st g asid address l shape good =
    let p = matches (stage1_of st g) st.board.own asid address in
    let by : looked_up_of st g asid address l ≡ found_by p l = simp (shape, good) in
    ap (found_number false) by ∙ either (some p l) (first p l)
  where
    either : (b : Bool) (k : ℕ) → found_number false (cond b (found_at k l) (Err (refusal.NotFound (slots l)))) ≡ 8
    either true k = refl
    either false k = refl

pub look-up-unfit : (s : StateRecord) (g asid address : ℕ) (l : List ℕ) (r : ℕ) (out m : List ℕ) →
    Answers (found_number (is_regime g)) (found_words (is_regime g)) (λ (a : Result Match Refusal). LooksUp (state_in s) (regime_at g) asid address l a m) r out → is_table l ≡ true →
    bad_state (state_in s) ≡ false → is_regime g ≡ false → r ≡ 8
look-up-unfit s g asid address l r out m h shape good f =
    h.numbered ∙ ap (λ (b : Bool). found_number b h.answer) f ∙ ap (found_number false) h.kept.0 ∙ searched (state_in s) (regime_at g) asid address l shape good

use Rattle.std.proofs.Common.{◌≡◌, ℕ, Bool, true, false, List, Err, refl, sym, ◌∙◌}
use Rattle.machine.proofs.Inserting.{insert-13, insert-8}
use Rattle.machine.specs.Entry.{is_legal}
use Rattle.machine.specs.Table.{is_table, insert_table}
use Rattle.machine.specs.declared.entry.Entry.{Entry}
use Rattle.received.proofs.Unfit.{entry-unfit, refused}
use Rattle.received.specs.Entries.{entry_in}
use Rattle.board.proofs.on_tables.chickadoor_insert.Goals as goal

-- an entry that is not legal changes no table
kept : (e : Entry) (out : ℕ) (l : List ℕ) → is_legal e ≡ false → l ≡ insert_table e out l
kept e out l h = go (is_table l) refl
  where
    go : (b : Bool) → is_table l ≡ b → l ≡ insert_table e out l
    go true t = sym (insert-8 e out l t h).1
    go false t = sym (insert-13 e out l t).1

pub returns-in_default : goal.returns-in_default
returns-in_default c =
    let e = entry_in c.args.entry in
    let unfit = entry-unfit c.args.entry (refused _ _ _ (sym c.try_from.ensures ∙ c.in_default.is)) in
    record {
      answer = Err c.refuse_entry.result;
      kept = (c.refuse_entry.ensures e unfit, kept e c.args.output c.args.table.now unfit);
      numbered = c.from.ensures ∙ c.number.ensures;
      told = refl;
    }

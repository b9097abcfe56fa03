use Rattle.std.proofs.Common.{◌≡◌, ◌%◌, Bool, true, cond, refl, sym, ap, ◌∙◌, Some, Ok, Err, rules, w8}
use Rattle.std.specs.Result.{result_ok}
use mir.ValLaws.{to_z-of_z}
use Rattle.machine.proofs.Tags.{company-same, entry-same}
use Rattle.received.proofs.Fits.{level-fit, entry-fit}
use Rattle.received.proofs.entry.EntryTryFromEntryRecord.try_from.Goals as goal
use Rattle.received.specs.Entries.{company_in, entry_fits, entry_in}
use Rattle.received.specs.Numbers.{level_from}
use Rattle.machine.specs.declared.refusal.Refusal.TheVariants.{Illegal}

pub returns : goal.returns
unfolding company_in entry_in entry_fits
returns c =
    let e = c.args.given in
    let level = c.in_ok-level.level in
    let told : level_from e.level ≡ Some level = sym c.level_at.ensures ∙ c.ok_or.ensures.ok_part ∙ ap result_ok c.in_ok-level.was in
    let (there, is) = level-fit e.level level told in
    let whole : entry_fits e ≡ true = simp (sym c.fits.ensures, c.if-not-fits-numbers.false, there) in
    let k = entry-fit e whole in
    let company = company-same c.regime_at.ensures c.security_at.ensures refl k.stage2 k.ns in
    let processor = ap (λ (b : Bool). cond b (e.processor % 256) 255) (sym whole) in
    ap Ok (entry-same _ processor company refl k.global k.wide refl (to_z-of_z w8 level (search rules) ∙ sym is) k.leaf k.xs)
    ∙ ap (λ (b : Bool). cond b (Ok (entry_in e)) (Err Illegal)) (sym whole)

use Rattle.std.proofs.Common.{◌+◌, sym, ap, ◌∙◌, arith, ltb-true, ltb-false}
use Rattle.machine.proofs.Going.{drop_own, drop-empty, drop-entry}
use Rattle.machine.proofs.Tags.{reads-written}
use Rattle.machine.specs.Entry.{is_legal}
use Rattle.machine.specs.Goes.{is_owned, is_granule_of, is_met, goes}
use Rattle.dropping.proofs.Apart.{drop-above, drop-below, end-met}
use Rattle.dropping.proofs.Keyed.{keyed}
use Rattle.tags.proofs.Parts.{rest-empty, rest-entry}
use Rattle.dropping.proofs.slots.is_dropped.Goals as goal

pub returns-then-work-base : goal.returns-then-work-base
returns-then-work-base c = let a = c.args in sym (drop-above a.work a.base a.tag 0 c.if-work-base.true)

pub end_at-end-requires : goal.end_at-end-requires
end_at-end-requires c =
    let p = c.requires in omega (arith, p.keyed.0, p.keyed.1, p.legal.1)

pub returns-then-is_before : goal.returns-then-is_before
returns-then-is_before c =
    let a = c.args in
    let before = ltb-true (a.base + c.end_at-end.result) a.work.first (sym c.is_before.ensures ∙ c.if-is_before.true) in
    sym (drop-below a.work a.base a.tag 0 (omega (arith, c.end_at-end.ensures, before)))

pub returns-then-not-is_rest : goal.returns-then-not-is_rest
returns-then-not-is_rest c =
    let a = c.args in
    sym (drop-empty a.work a.base a.tag 0 (rest-empty a.base a.tag (sym c.is_rest.ensures ∙ c.if-not-is_rest.true)))

pub goes-requires : goal.goes-requires
goes-requires c =
    let a = c.args in
    let p = c.requires in
    let k = keyed a.work a.tag p.keyed.0 p.keyed.1 p.keyed.2 p.legal.1 p.legal.2 in
    let h = sym (rest-entry a.base a.tag k.0 k.1) ∙ sym c.is_rest.ensures ∙ c.if-not-is_rest.false in
    let e = c.entry_at.ensures in
    let own = drop_own a.work a.base a.tag h p.keyed.0 p.keyed.1 p.keyed.2 p.legal.1 in
    let from = ltb-false (a.base + c.end_at-end.result) a.work.first (sym c.is_before.ensures ∙ c.if-is_before.false) in
    let met = end-met a.work a.base a.tag h (omega (arith, c.end_at-end.ensures, from)) c.if-work-base.false in
    (ap is_legal e ∙ (reads-written a.base a.tag h).1, ap (is_owned a.work) e ∙ own.0, ap (is_granule_of a.work) e ∙ own.1, ap (is_met a.work) e ∙ met)

pub returns : goal.returns
returns c =
    let a = c.args in
    let p = c.requires in
    let k = keyed a.work a.tag p.keyed.0 p.keyed.1 p.keyed.2 p.legal.1 p.legal.2 in
    let h = sym (rest-entry a.base a.tag k.0 k.1) ∙ sym c.is_rest.ensures ∙ c.if-not-is_rest.false in
    c.goes.ensures ∙ ap (goes a.work) c.entry_at.ensures ∙ sym (drop-entry a.work a.base a.tag 0 h)

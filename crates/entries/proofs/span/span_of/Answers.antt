use Rattle.std.proofs.Common.{rules, ◌%◌, ◌^◌, ℕ, w8, ap, ◌∙◌, arith}
use mir.ValLaws.{to_z-of_z}
use Rattle.machine.proofs.Spans.{span-tg-most, span-level, span-most}
use Rattle.machine.proofs.Tags.{legal}
use Rattle.machine.specs.Span.{is_level, exponent_of}
use Rattle.entries.proofs.span.span_of.Goals as goal

pub exponent_of-requires : goal.exponent_of-requires
exponent_of-requires c =
    let e = c.args.entry in
    let k = legal e c.requires in
    (span-tg-most e.wide e.granule e.level k.span, ap is_level (to_z-of_z w8 e.level (search rules)) ∙ span-level e.wide e.granule e.level k.span)

pub returns : goal.returns
returns c =
    let e = c.args.entry in
    let k = legal e c.requires in
    let x = c.exponent_of.ensures.0 ∙ ap (exponent_of e.wide e.granule) (to_z-of_z w8 e.level (search rules)) in
    (x, omega (arith, x, span-most e.wide e.granule e.level k.span), ap (λ (j : ℕ). e.base % 2 ^ j) x ∙ k.multiple)

use mathlib.Core.Path.{◌∙◌}
use Rattle.rules.proofs.Judged.{handed-on, judged, kept-on, broken-here, last}
use Rattle.generic.specs.Generic.{generic_check, generic_rules}
use Rattle.generic.proofs.Generic.check.Goals as goal

pub returns-in_err-rule : goal.returns-in_err-rule
unfolding generic_check
returns-in_err-rule c =
    handed-on c.from_residual.ensures.1 ∙ judged {rs = generic_rules c.args.self} (
    broken-here _ _ c.in_err-rule.was (rw (c.rule.ensures, c.magic_ok.ensures)))

pub returns : goal.returns
unfolding generic_check
returns c =
    judged {rs = generic_rules c.args.self} (
    kept-on _ _ c.in_ok-rule.was (rw (c.rule.ensures, c.magic_ok.ensures)) (
    last _ (rw (c.rule-2.ensures, c.generic_type_ok.ensures))))

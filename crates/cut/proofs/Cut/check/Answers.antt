use mathlib.Core.Path.{◌∙◌}
use Rattle.rules.proofs.Judged.{handed-on, judged, kept-on, broken-here, last}
use Rattle.cut.specs.Cut.{cut_check, cut_rules}
use Rattle.cut.proofs.Cut.check.Goals as goal

pub returns-in_err-rule : goal.returns-in_err-rule
unfolding cut_check
returns-in_err-rule c =
    handed-on c.from_residual.ensures.1 ∙ judged {rs = cut_rules c.args.self} (
    broken-here _ _ c.in_err-rule.was (rw (c.rule.ensures, c.process_mode_ok.ensures)))

pub returns-in_err-rule-2 : goal.returns-in_err-rule-2
unfolding cut_check
returns-in_err-rule-2 c =
    handed-on c.from_residual-in_err-rule-2.ensures.1 ∙ judged {rs = cut_rules c.args.self} (
    kept-on _ _ c.in_ok-rule.was (rw (c.rule.ensures, c.process_mode_ok.ensures)) (
    broken-here _ _ c.in_err-rule-2.was (rw (c.rule-2.ensures, c.wave_form_ok.ensures))))

pub returns-in_err-rule-3 : goal.returns-in_err-rule-3
unfolding cut_check
returns-in_err-rule-3 c =
    handed-on c.from_residual-in_err-rule-3.ensures.1 ∙ judged {rs = cut_rules c.args.self} (
    kept-on _ _ c.in_ok-rule.was (rw (c.rule.ensures, c.process_mode_ok.ensures)) (
    kept-on _ _ c.in_ok-rule-2.was (rw (c.rule-2.ensures, c.wave_form_ok.ensures)) (
    broken-here _ _ c.in_err-rule-3.was (rw (c.rule-3.ensures, c.unfold_mode_ok.ensures)))))

pub returns-in_err-rule-4 : goal.returns-in_err-rule-4
unfolding cut_check
returns-in_err-rule-4 c =
    handed-on c.from_residual-in_err-rule-4.ensures.1 ∙ judged {rs = cut_rules c.args.self} (
    kept-on _ _ c.in_ok-rule.was (rw (c.rule.ensures, c.process_mode_ok.ensures)) (
    kept-on _ _ c.in_ok-rule-2.was (rw (c.rule-2.ensures, c.wave_form_ok.ensures)) (
    kept-on _ _ c.in_ok-rule-3.was (rw (c.rule-3.ensures, c.unfold_mode_ok.ensures)) (
    broken-here _ _ c.in_err-rule-4.was (rw (c.rule-4.ensures, c.resolution_ok.ensures))))))

pub returns-in_err-rule-5 : goal.returns-in_err-rule-5
unfolding cut_check
returns-in_err-rule-5 c =
    handed-on c.from_residual-in_err-rule-5.ensures.1 ∙ judged {rs = cut_rules c.args.self} (
    kept-on _ _ c.in_ok-rule.was (rw (c.rule.ensures, c.process_mode_ok.ensures)) (
    kept-on _ _ c.in_ok-rule-2.was (rw (c.rule-2.ensures, c.wave_form_ok.ensures)) (
    kept-on _ _ c.in_ok-rule-3.was (rw (c.rule-3.ensures, c.unfold_mode_ok.ensures)) (
    kept-on _ _ c.in_ok-rule-4.was (rw (c.rule-4.ensures, c.resolution_ok.ensures)) (
    broken-here _ _ c.in_err-rule-5.was (rw (c.rule-5.ensures, c.resolution_ok-2.ensures)))))))

pub returns : goal.returns
unfolding cut_check
returns c =
    judged {rs = cut_rules c.args.self} (
    kept-on _ _ c.in_ok-rule.was (rw (c.rule.ensures, c.process_mode_ok.ensures)) (
    kept-on _ _ c.in_ok-rule-2.was (rw (c.rule-2.ensures, c.wave_form_ok.ensures)) (
    kept-on _ _ c.in_ok-rule-3.was (rw (c.rule-3.ensures, c.unfold_mode_ok.ensures)) (
    kept-on _ _ c.in_ok-rule-4.was (rw (c.rule-4.ensures, c.resolution_ok.ensures)) (
    kept-on _ _ c.in_ok-rule-5.was (rw (c.rule-5.ensures, c.resolution_ok-2.ensures)) (
    last _ (rw (c.rule-6.ensures, c.phase_mode_ok.ensures))))))))

use mathlib.Core.Path.{◌∙◌}
use Rattle.rules.proofs.Judged.{handed-on, judged, kept-on, broken-here, last}
use Rattle.task.specs.Task.{task_check, task_rules}
use Rattle.task.proofs.Task.check.Goals as goal

pub returns-in_err-rule : goal.returns-in_err-rule
unfolding task_check
returns-in_err-rule c =
    handed-on c.from_residual.ensures.1 ∙ judged {rs = task_rules c.args.self} (
    broken-here _ _ c.in_err-rule.was (rw (c.rule.ensures, c.polarization_ok.ensures)))

pub returns-in_err-rule-2 : goal.returns-in_err-rule-2
unfolding task_check
returns-in_err-rule-2 c =
    handed-on c.from_residual-in_err-rule-2.ensures.1 ∙ judged {rs = task_rules c.args.self} (
    kept-on _ _ c.in_ok-rule.was (rw (c.rule.ensures, c.polarization_ok.ensures)) (
    broken-here _ _ c.in_err-rule-2.was (rw (c.rule-2.ensures, c.scan_type_ok.ensures))))

pub returns-in_err-rule-3 : goal.returns-in_err-rule-3
unfolding task_check
returns-in_err-rule-3 c =
    handed-on c.from_residual-in_err-rule-3.ensures.1 ∙ judged {rs = task_rules c.args.self} (
    kept-on _ _ c.in_ok-rule.was (rw (c.rule.ensures, c.polarization_ok.ensures)) (
    kept-on _ _ c.in_ok-rule-2.was (rw (c.rule-2.ensures, c.scan_type_ok.ensures)) (
    broken-here _ _ c.in_err-rule-3.was (rw (c.rule-3.ensures, c.not_below_zero.ensures)))))

pub returns : goal.returns
unfolding task_check
returns c =
    judged {rs = task_rules c.args.self} (
    kept-on _ _ c.in_ok-rule.was (rw (c.rule.ensures, c.polarization_ok.ensures)) (
    kept-on _ _ c.in_ok-rule-2.was (rw (c.rule-2.ensures, c.scan_type_ok.ensures)) (
    kept-on _ _ c.in_ok-rule-3.was (rw (c.rule-3.ensures, c.not_below_zero.ensures)) (
    last _ (rw (c.clauses.ensures, c.cut_number_breaks.ensures))))))

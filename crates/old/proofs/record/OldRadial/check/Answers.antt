use mathlib.Core.Path.{◌∙◌}
use Rattle.rules.proofs.Judged.{handed-on, judged, kept-on, broken-here, last}
use Rattle.old.specs.Old.{old_check, old_rules}
use Rattle.old.proofs.record.OldRadial.check.Goals as goal

pub returns-in_err-rule : goal.returns-in_err-rule
unfolding old_check
returns-in_err-rule c =
    handed-on c.from_residual.ensures.1 ∙ judged {rs = old_rules c.args.self} (
    broken-here _ _ c.in_err-rule.was (rw (c.rule.ensures, c.mark_ok.ensures)))

pub returns-in_err-clauses : goal.returns-in_err-clauses
unfolding old_check
returns-in_err-clauses c =
    handed-on c.from_residual-in_err-clauses.ensures.1 ∙ judged {rs = old_rules c.args.self} (
    kept-on _ _ c.in_ok-rule.was (rw (c.rule.ensures, c.mark_ok.ensures)) (
    broken-here _ _ c.in_err-clauses.was (rw (c.clauses.ensures, c.time_breaks.ensures))))

pub returns-in_err-clauses-2 : goal.returns-in_err-clauses-2
unfolding old_check
returns-in_err-clauses-2 c =
    handed-on c.from_residual-in_err-clauses-2.ensures.1 ∙ judged {rs = old_rules c.args.self} (
    kept-on _ _ c.in_ok-rule.was (rw (c.rule.ensures, c.mark_ok.ensures)) (
    kept-on _ _ c.in_ok-clauses.was (rw (c.clauses.ensures, c.time_breaks.ensures)) (
    broken-here _ _ c.in_err-clauses-2.was (rw (c.clauses-2.ensures, c.counts_breaks.ensures)))))

pub returns : goal.returns
unfolding old_check
returns c =
    judged {rs = old_rules c.args.self} (
    kept-on _ _ c.in_ok-rule.was (rw (c.rule.ensures, c.mark_ok.ensures)) (
    kept-on _ _ c.in_ok-clauses.was (rw (c.clauses.ensures, c.time_breaks.ensures)) (
    kept-on _ _ c.in_ok-clauses-2.was (rw (c.clauses-2.ensures, c.counts_breaks.ensures)) (
    last _ (rw (c.rule-2.ensures, c.resolution_ok.ensures))))))

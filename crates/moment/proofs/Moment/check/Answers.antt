use mathlib.Core.Path.{◌∙◌}
use Rattle.rules.proofs.Judged.{handed-on, judged, kept-on, broken-here, last}
use Rattle.moment.specs.Moment.{moment_check, moment_rules}
use Rattle.moment.proofs.Moment.check.Goals as goal

pub returns-in_err-clauses : goal.returns-in_err-clauses
unfolding moment_check
returns-in_err-clauses c =
    handed-on c.from_residual.ensures.1 ∙ judged {rs = moment_rules c.args.self c.args.due} (
    broken-here _ _ c.in_err-clauses.was (rw (c.clauses.ensures, c.type_breaks.ensures)))

pub returns-in_err-rule : goal.returns-in_err-rule
unfolding moment_check
returns-in_err-rule c =
    handed-on c.from_residual-in_err-rule.ensures.1 ∙ judged {rs = moment_rules c.args.self c.args.due} (
    kept-on _ _ c.in_ok-clauses.was (rw (c.clauses.ensures, c.type_breaks.ensures)) (
    broken-here _ _ c.in_err-rule.was (rw (c.rule.ensures, c.scale_ok.ensures))))

pub returns-in_err-rule-2 : goal.returns-in_err-rule-2
unfolding moment_check
returns-in_err-rule-2 c =
    handed-on c.from_residual-in_err-rule-2.ensures.1 ∙ judged {rs = moment_rules c.args.self c.args.due} (
    kept-on _ _ c.in_ok-clauses.was (rw (c.clauses.ensures, c.type_breaks.ensures)) (
    kept-on _ _ c.in_ok-rule.was (rw (c.rule.ensures, c.scale_ok.ensures)) (
    broken-here _ _ c.in_err-rule-2.was (rw (c.rule-2.ensures, c.offset_ok.ensures)))))

pub returns-in_err-clauses-2 : goal.returns-in_err-clauses-2
unfolding moment_check
returns-in_err-clauses-2 c =
    handed-on c.from_residual-in_err-clauses-2.ensures.1 ∙ judged {rs = moment_rules c.args.self c.args.due} (
    kept-on _ _ c.in_ok-clauses.was (rw (c.clauses.ensures, c.type_breaks.ensures)) (
    kept-on _ _ c.in_ok-rule.was (rw (c.rule.ensures, c.scale_ok.ensures)) (
    kept-on _ _ c.in_ok-rule-2.was (rw (c.rule-2.ensures, c.offset_ok.ensures)) (
    broken-here _ _ c.in_err-clauses-2.was (rw (c.clauses-2.ensures, c.bin_length_breaks.ensures))))))

pub returns : goal.returns
unfolding moment_check
returns c =
    judged {rs = moment_rules c.args.self c.args.due} (
    kept-on _ _ c.in_ok-clauses.was (rw (c.clauses.ensures, c.type_breaks.ensures)) (
    kept-on _ _ c.in_ok-rule.was (rw (c.rule.ensures, c.scale_ok.ensures)) (
    kept-on _ _ c.in_ok-rule-2.was (rw (c.rule-2.ensures, c.offset_ok.ensures)) (
    kept-on _ _ c.in_ok-clauses-2.was (rw (c.clauses-2.ensures, c.bin_length_breaks.ensures)) (
    last _ (rw (c.clauses-3.ensures, c.length_breaks.ensures)))))))

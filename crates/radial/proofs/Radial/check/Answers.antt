use mathlib.Core.Path.{◌∙◌}
use native.Mathlib.Omega.{arith}
use Rattle.rules.proofs.Four.{azimuth, elevation}
use Rattle.rules.proofs.Judged.{handed-on, judged, kept-on, broken-here, last}
use Rattle.radial.specs.Radial.{radial_check, radial_rules}
use Rattle.radial.proofs.Radial.check.Goals as goal

pub returns-in_err-rule : goal.returns-in_err-rule
unfolding radial_check
returns-in_err-rule c =
    handed-on c.from_residual.ensures.1 ∙ judged {rs = radial_rules c.args.self c.args.due} (
    broken-here _ _ c.in_err-rule.was (rw (c.rule.ensures, c.state_ok.ensures)))

pub returns-in_err-rule-2 : goal.returns-in_err-rule-2
unfolding radial_check
returns-in_err-rule-2 c =
    handed-on c.from_residual-in_err-rule-2.ensures.1 ∙ judged {rs = radial_rules c.args.self c.args.due} (
    kept-on _ _ c.in_ok-rule.was (rw (c.rule.ensures, c.state_ok.ensures)) (
    broken-here _ _ c.in_err-rule-2.was (rw (c.rule-2.ensures, c.spot_blank_ok.ensures))))

pub returns-in_err-clauses : goal.returns-in_err-clauses
unfolding radial_check
returns-in_err-clauses c =
    handed-on c.from_residual-in_err-clauses.ensures.1 ∙ judged {rs = radial_rules c.args.self c.args.due} (
    kept-on _ _ c.in_ok-rule.was (rw (c.rule.ensures, c.state_ok.ensures)) (
    kept-on _ _ c.in_ok-rule-2.was (rw (c.rule-2.ensures, c.spot_blank_ok.ensures)) (
    broken-here _ _ c.in_err-clauses.was (rw (c.clauses.ensures, c.sequence_breaks.ensures)))))

pub returns-in_err-clauses-2 : goal.returns-in_err-clauses-2
unfolding radial_check
returns-in_err-clauses-2 c =
    handed-on c.from_residual-in_err-clauses-2.ensures.1 ∙ judged {rs = radial_rules c.args.self c.args.due} (
    kept-on _ _ c.in_ok-rule.was (rw (c.rule.ensures, c.state_ok.ensures)) (
    kept-on _ _ c.in_ok-rule-2.was (rw (c.rule-2.ensures, c.spot_blank_ok.ensures)) (
    kept-on _ _ c.in_ok-clauses.was (rw (c.clauses.ensures, c.sequence_breaks.ensures)) (
    broken-here _ _ c.in_err-clauses-2.was (rw (c.clauses-2.ensures, c.radial_number_breaks.ensures))))))

pub returns-in_err-rule-3 : goal.returns-in_err-rule-3
unfolding radial_check
returns-in_err-rule-3 c =
    handed-on c.from_residual-in_err-rule-3.ensures.1 ∙ judged {rs = radial_rules c.args.self c.args.due} (
    kept-on _ _ c.in_ok-rule.was (rw (c.rule.ensures, c.state_ok.ensures)) (
    kept-on _ _ c.in_ok-rule-2.was (rw (c.rule-2.ensures, c.spot_blank_ok.ensures)) (
    kept-on _ _ c.in_ok-clauses.was (rw (c.clauses.ensures, c.sequence_breaks.ensures)) (
    kept-on _ _ c.in_ok-clauses-2.was (rw (c.clauses-2.ensures, c.radial_number_breaks.ensures)) (
    broken-here _ _ c.in_err-rule-3.was (rw (c.rule-3.ensures, c.elevation_number_ok.ensures)))))))

pub returns-in_err-rule-4 : goal.returns-in_err-rule-4
unfolding radial_check
returns-in_err-rule-4 c =
    handed-on c.from_residual-in_err-rule-4.ensures.1 ∙ judged {rs = radial_rules c.args.self c.args.due} (
    kept-on _ _ c.in_ok-rule.was (rw (c.rule.ensures, c.state_ok.ensures)) (
    kept-on _ _ c.in_ok-rule-2.was (rw (c.rule-2.ensures, c.spot_blank_ok.ensures)) (
    kept-on _ _ c.in_ok-clauses.was (rw (c.clauses.ensures, c.sequence_breaks.ensures)) (
    kept-on _ _ c.in_ok-clauses-2.was (rw (c.clauses-2.ensures, c.radial_number_breaks.ensures)) (
    kept-on _ _ c.in_ok-rule-3.was (rw (c.rule-3.ensures, c.elevation_number_ok.ensures)) (
    broken-here _ _ c.in_err-rule-4.was (rw (c.rule-4.ensures, c.azimuth_ok.ensures, azimuth c.args.self.azimuth (omega (arith, c))))))))))

pub returns-in_err-rule-5 : goal.returns-in_err-rule-5
unfolding radial_check
returns-in_err-rule-5 c =
    handed-on c.from_residual-in_err-rule-5.ensures.1 ∙ judged {rs = radial_rules c.args.self c.args.due} (
    kept-on _ _ c.in_ok-rule.was (rw (c.rule.ensures, c.state_ok.ensures)) (
    kept-on _ _ c.in_ok-rule-2.was (rw (c.rule-2.ensures, c.spot_blank_ok.ensures)) (
    kept-on _ _ c.in_ok-clauses.was (rw (c.clauses.ensures, c.sequence_breaks.ensures)) (
    kept-on _ _ c.in_ok-clauses-2.was (rw (c.clauses-2.ensures, c.radial_number_breaks.ensures)) (
    kept-on _ _ c.in_ok-rule-3.was (rw (c.rule-3.ensures, c.elevation_number_ok.ensures)) (
    kept-on _ _ c.in_ok-rule-4.was (rw (c.rule-4.ensures, c.azimuth_ok.ensures, azimuth c.args.self.azimuth (omega (arith, c)))) (
    broken-here _ _ c.in_err-rule-5.was (rw (c.rule-5.ensures, c.elevation_ok.ensures, elevation c.args.self.elevation (omega (arith, c)))))))))))

pub returns-in_err-rule-6 : goal.returns-in_err-rule-6
unfolding radial_check
returns-in_err-rule-6 c =
    handed-on c.from_residual-in_err-rule-6.ensures.1 ∙ judged {rs = radial_rules c.args.self c.args.due} (
    kept-on _ _ c.in_ok-rule.was (rw (c.rule.ensures, c.state_ok.ensures)) (
    kept-on _ _ c.in_ok-rule-2.was (rw (c.rule-2.ensures, c.spot_blank_ok.ensures)) (
    kept-on _ _ c.in_ok-clauses.was (rw (c.clauses.ensures, c.sequence_breaks.ensures)) (
    kept-on _ _ c.in_ok-clauses-2.was (rw (c.clauses-2.ensures, c.radial_number_breaks.ensures)) (
    kept-on _ _ c.in_ok-rule-3.was (rw (c.rule-3.ensures, c.elevation_number_ok.ensures)) (
    kept-on _ _ c.in_ok-rule-4.was (rw (c.rule-4.ensures, c.azimuth_ok.ensures, azimuth c.args.self.azimuth (omega (arith, c)))) (
    kept-on _ _ c.in_ok-rule-5.was (rw (c.rule-5.ensures, c.elevation_ok.ensures, elevation c.args.self.elevation (omega (arith, c)))) (
    broken-here _ _ c.in_err-rule-6.was (rw (c.rule-6.ensures, c.not_below_zero.ensures))))))))))

pub returns-in_err-rule-7 : goal.returns-in_err-rule-7
unfolding radial_check
returns-in_err-rule-7 c =
    handed-on c.from_residual-in_err-rule-7.ensures.1 ∙ judged {rs = radial_rules c.args.self c.args.due} (
    kept-on _ _ c.in_ok-rule.was (rw (c.rule.ensures, c.state_ok.ensures)) (
    kept-on _ _ c.in_ok-rule-2.was (rw (c.rule-2.ensures, c.spot_blank_ok.ensures)) (
    kept-on _ _ c.in_ok-clauses.was (rw (c.clauses.ensures, c.sequence_breaks.ensures)) (
    kept-on _ _ c.in_ok-clauses-2.was (rw (c.clauses-2.ensures, c.radial_number_breaks.ensures)) (
    kept-on _ _ c.in_ok-rule-3.was (rw (c.rule-3.ensures, c.elevation_number_ok.ensures)) (
    kept-on _ _ c.in_ok-rule-4.was (rw (c.rule-4.ensures, c.azimuth_ok.ensures, azimuth c.args.self.azimuth (omega (arith, c)))) (
    kept-on _ _ c.in_ok-rule-5.was (rw (c.rule-5.ensures, c.elevation_ok.ensures, elevation c.args.self.elevation (omega (arith, c)))) (
    kept-on _ _ c.in_ok-rule-6.was (rw (c.rule-6.ensures, c.not_below_zero.ensures)) (
    broken-here _ _ c.in_err-rule-7.was (rw (c.rule-7.ensures, c.microseconds_ok.ensures)))))))))))

pub returns-in_err-rule-8 : goal.returns-in_err-rule-8
unfolding radial_check
returns-in_err-rule-8 c =
    handed-on c.from_residual-in_err-rule-8.ensures.1 ∙ judged {rs = radial_rules c.args.self c.args.due} (
    kept-on _ _ c.in_ok-rule.was (rw (c.rule.ensures, c.state_ok.ensures)) (
    kept-on _ _ c.in_ok-rule-2.was (rw (c.rule-2.ensures, c.spot_blank_ok.ensures)) (
    kept-on _ _ c.in_ok-clauses.was (rw (c.clauses.ensures, c.sequence_breaks.ensures)) (
    kept-on _ _ c.in_ok-clauses-2.was (rw (c.clauses-2.ensures, c.radial_number_breaks.ensures)) (
    kept-on _ _ c.in_ok-rule-3.was (rw (c.rule-3.ensures, c.elevation_number_ok.ensures)) (
    kept-on _ _ c.in_ok-rule-4.was (rw (c.rule-4.ensures, c.azimuth_ok.ensures, azimuth c.args.self.azimuth (omega (arith, c)))) (
    kept-on _ _ c.in_ok-rule-5.was (rw (c.rule-5.ensures, c.elevation_ok.ensures, elevation c.args.self.elevation (omega (arith, c)))) (
    kept-on _ _ c.in_ok-rule-6.was (rw (c.rule-6.ensures, c.not_below_zero.ensures)) (
    kept-on _ _ c.in_ok-rule-7.was (rw (c.rule-7.ensures, c.microseconds_ok.ensures)) (
    broken-here _ _ c.in_err-rule-8.was (rw (c.rule-8.ensures, c.length_of_data_ok.ensures))))))))))))

pub returns : goal.returns
unfolding radial_check
returns c =
    judged {rs = radial_rules c.args.self c.args.due} (
    kept-on _ _ c.in_ok-rule.was (rw (c.rule.ensures, c.state_ok.ensures)) (
    kept-on _ _ c.in_ok-rule-2.was (rw (c.rule-2.ensures, c.spot_blank_ok.ensures)) (
    kept-on _ _ c.in_ok-clauses.was (rw (c.clauses.ensures, c.sequence_breaks.ensures)) (
    kept-on _ _ c.in_ok-clauses-2.was (rw (c.clauses-2.ensures, c.radial_number_breaks.ensures)) (
    kept-on _ _ c.in_ok-rule-3.was (rw (c.rule-3.ensures, c.elevation_number_ok.ensures)) (
    kept-on _ _ c.in_ok-rule-4.was (rw (c.rule-4.ensures, c.azimuth_ok.ensures, azimuth c.args.self.azimuth (omega (arith, c)))) (
    kept-on _ _ c.in_ok-rule-5.was (rw (c.rule-5.ensures, c.elevation_ok.ensures, elevation c.args.self.elevation (omega (arith, c)))) (
    kept-on _ _ c.in_ok-rule-6.was (rw (c.rule-6.ensures, c.not_below_zero.ensures)) (
    kept-on _ _ c.in_ok-rule-7.was (rw (c.rule-7.ensures, c.microseconds_ok.ensures)) (
    kept-on _ _ c.in_ok-rule-8.was (rw (c.rule-8.ensures, c.length_of_data_ok.ensures)) (
    last _ (rw (c.clauses-3.ensures, c.moment_number_breaks.ensures)))))))))))))

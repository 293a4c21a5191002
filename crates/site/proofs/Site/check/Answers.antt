use mathlib.Core.Path.{◌∙◌}
use native.Mathlib.Omega.{arith}
use Rattle.rules.proofs.Four.{latitude, longitude}
use Rattle.rules.proofs.Judged.{handed-on, judged, kept-on, broken-here, last}
use Rattle.site.specs.Site.{site_check, site_rules}
use Rattle.site.proofs.Site.check.Goals as goal

pub returns-in_err-rule : goal.returns-in_err-rule
unfolding site_check
returns-in_err-rule c =
    handed-on c.from_residual.ensures.1 ∙ judged {rs = site_rules c.args.self} (
    broken-here _ _ c.in_err-rule.was (rw (c.rule.ensures, c.latitude_ok.ensures, latitude c.args.self.latitude (omega (arith, c)))))

pub returns : goal.returns
unfolding site_check
returns c =
    judged {rs = site_rules c.args.self} (
    kept-on _ _ c.in_ok-rule.was (rw (c.rule.ensures, c.latitude_ok.ensures, latitude c.args.self.latitude (omega (arith, c)))) (
    last _ (rw (c.rule-2.ensures, c.longitude_ok.ensures, longitude c.args.self.longitude (omega (arith, c))))))

use Rattle.reading.specs.Step.{take_site}
use Rattle.reading.proofs.step.site.Goals as goal

pub returns : goal.returns
unfolding take_site
returns c =
    rw (c.settle.ensures, c.site.ensures, c.check.ensures, c.read-r.ensures, c.requires)

use mathlib.Core.Path.{ap, ◌∙◌}
use Rattle.site.specs.Site.{site_of, site_at}
use Rattle.site.proofs.Site.read.Goals as goal

pub returns : goal.returns
unfolding site_at
returns c = c.decode.ensures ∙ ap site_of c.bytes_at.ensures

-- Open means hope, by citing the crate `hope`. Assumes nothing.
use Rattle.hope.proofs.Files.{open-only, open-when, at-end, forty-only, forty-when, otherwise, writer-forty}
use Rattle.hope.proofs.Told.{accepted-hope, against, begins, complete-both, read_alike, tested}
use Rattle.demands.specs.Hopes.{Hopes}

pub hopes-hold : Hopes
hopes-hold =
    record {
      begins = begins;
      tested = tested;
      otherwise = otherwise;
      accepted = accepted-hope;
      alike = read_alike;
      at-end = at-end;
      opens = λ f n bs. (open-only f bs n, λ x. open-when f bs n x.0 x.1);
      forty = λ f p bs. (forty-only f bs p, λ x. forty-when f bs p x.0 x.1);
      complete = complete-both;
      before = against;
      writer = writer-forty;
    }

-- Demand 3, by citing what growth keeps of a reading and of the answers. Assumes nothing.
use Rattle.reading.proofs.Grown.{grows}
use Rattle.ask.proofs.Grown.{answers-grow}
use Rattle.decoded.proofs.Grown.{checks-grow}
use Rattle.citing.proofs.Grown.{cites-grow}
use Rattle.mend.proofs.Growing.{mend-grows}
use Rattle.mend.proofs.Handed.{handed-back}
use Rattle.pick.proofs.Growing as pick
use Rattle.engine.proofs.Grown.{engine-grows}
use Rattle.demands.specs.Three.{DemandThree}

pub demand-three : DemandThree
demand-three A C some =
    record {
      reading = grows A C some;
      answers = answers-grow A C some;
      checks = checks-grow A C some;
      cites = cites-grow A C some;
      mends = λ bs. mend-grows A C some bs (handed-back A C bs);
      picks = pick.grows A C;
      lists = engine-grows A C some;
    }

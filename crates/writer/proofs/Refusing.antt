-- Where the table's checks refuse a block, reading what is written and then the block is refused as well, with the same number
-- and place. Assumes nothing.
use Prim.Native.Nat.{ℕ}
use mathlib.Core.Path.{◌≡◌, refl, ap, ◌∙◌}
use mathlib.Core.Bool.{true}
use mathlib.Core.List.{List, ◌++◌}
use Rattle.walk.specs.declared.due.Walk.{Walk}
use Rattle.reading.specs.declared.step.Step.TheVariants.{Refused}
use Rattle.reading.specs.Step.{take_data, step_of}
use Rattle.reading.specs.Reading.{ending_told}
use Rattle.reading.proofs.Run.{Stays}
use Rattle.reading.proofs.Growing.{rests}
use Rattle.writer.specs.Agree.{written}
use Rattle.writer.specs.Block.{Block, generic, site, task, cut, radial, moment, «data», says_of, fits_of, bytes_of}
use Rattle.writer.specs.Trips.{Fits, SamePlace}
use Rattle.writer.proofs.Agreeing.{reads}

-- data has no rule, and any other block has its length
refused-fits : (b : Block) (room : List ℕ) (w : Walk) (n p : ℕ) → says_of b room w ≡ Refused n p → fits_of b w ≡ true
unfolding take_data
refused-fits (generic r) room w n p e = refl
refused-fits (site r) room w n p e = refl
refused-fits (task r) room w n p e = refl
refused-fits (cut r) room w n p e = refl
refused-fits (radial r) room w n p e = refl
refused-fits (moment r) room w n p e = refl
refused-fits («data» bs) room w n p e = cc

pub same_place : (b : Block) → Fits b → (w : Walk) (room : List ℕ) → SamePlace b w room
unfolding ending_told Stays
same_place b fits w room a k n p e =
    let s = reads b fits w room a k (refused-fits b room w n p e) ∙ e in
    ap ending_told (rests (written w room) (bytes_of b) (Refused n p) tt (ap (step_of (written w room ++ bytes_of b)) a.stops ∙ s)).told

-- What holds of a block of every kind: how long it is, and that the reader finds it again. Six kinds share one shape, and
-- each clause below cites the kind's own law. Assumes nothing.
use Prim.Native.Nat.{ℕ, ◌+◌}
use native.Mathlib.Omega.{arith}
use mathlib.Core.Path.{◌≡◌, refl, sym, ap, ◌∙◌}
use mathlib.Core.Bool.{true, false}
use mathlib.Core.List.{List}
use borrow.Author.Tests.{eq-eqb, eqb-true}
use lib.ListN.{length, take}
use Rattle.le.specs.Le.{part, Bytes}
use Rattle.le.proofs.Laws.{length_part, part-take, part_bytes}
use Rattle.cut.specs.Cut.{cut_of, cut_at}
use Rattle.generic.specs.Generic.{generic_of, generic_at}
use Rattle.moment.specs.Moment.{moment_of, moment_at}
use Rattle.radial.specs.Radial.{radial_of, radial_at}
use Rattle.site.specs.Site.{site_of, site_at}
use Rattle.task.specs.Task.{task_of, task_at}
use Rattle.generic.proofs.Trips as generic-trip
use Rattle.site.proofs.Trips as site-trip
use Rattle.task.proofs.Trips as task-trip
use Rattle.cut.proofs.Trips as cut-trip
use Rattle.radial.proofs.Trips as radial-trip
use Rattle.moment.proofs.Trips as moment-trip
use Rattle.walk.specs.declared.due.Due.{Due}
use Rattle.walk.specs.declared.due.Due.TheVariants as due
use Rattle.walk.specs.declared.due.Walk.{Walk}
use Rattle.walk.specs.Due.{size_at, is_end, cut_place}
use Rattle.reading.specs.Step.{take_generic, take_site, take_task, take_cut, take_radial, take_moment, take_data, block_at, hope_at, hoping, say_radial, say_block}
use Rattle.reading.proofs.Run.{Plain, took, settle-plain, hoping-plain}
use Rattle.writer.specs.Block.{Block, generic, site, task, cut, radial, moment, «data», kind_of, says_of, fits_of, length_of, bytes_of}
use Rattle.writer.specs.Trips.{Fits, block_in}

pub going : (b : Block) → is_end (kind_of b) ≡ false
unfolding is_end
going (generic r) = refl
going (site r) = refl
going (task r) = refl
going (cut r) = refl
going (radial r) = refl
going (moment r) = refl
going («data» bs) = refl

pub long : (b : Block) → Fits b → length (bytes_of b) ≡ length_of b
long (generic r) h = generic-trip.length-is r h
long (site r) h = site-trip.length-is r h
long (task r) h = task-trip.length-is r h
long (cut r) h = cut-trip.length-is r h
long (radial r) h = radial-trip.length-is r h
long (moment r) h = moment-trip.length-is r h
long («data» bs) h = refl

-- its length is what is due
pub size_is : (b : Block) (w : Walk) → fits_of b w ≡ true → length_of b ≡ size_at (kind_of b) w.rest.length
unfolding size_at
size_is (generic r) w e = refl
size_is (site r) w e = refl
size_is (task r) w e = refl
size_is (cut r) w e = refl
size_is (radial r) w e = refl
size_is (moment r) w e = refl
size_is («data» bs) w e = eqb-true (length bs) w.rest.length e

pub size-if : (b : Block) (w : Walk) → length_of b ≡ size_at (kind_of b) w.rest.length → fits_of b w ≡ true
unfolding size_at
size-if (generic r) w e = refl
size-if (site r) w e = refl
size-if (task r) w e = refl
size-if (cut r) w e = refl
size-if (radial r) w e = refl
size-if (moment r) w e = refl
size-if («data» bs) w e = eq-eqb (length bs) w.rest.length e

-- the reader takes or refuses it
pub says_plain : (b : Block) (room : List ℕ) (w : Walk) → Plain (says_of b room w)
unfolding take_generic take_site take_task take_cut take_radial take_moment take_data
says_plain (generic r) room w = settle-plain _ _ _
says_plain (site r) room w = settle-plain _ _ _
says_plain (task r) room w = settle-plain _ _ _
says_plain (cut r) room w = hoping-plain _ _ _ (settle-plain _ _ _)
says_plain (radial r) room w = hoping-plain _ _ _ (settle-plain _ _ _)
says_plain (moment r) room w = hoping-plain _ _ _ (settle-plain _ _ _)
says_plain («data» bs) room w = took _ refl

-- ---- the reader finds in p what was put there

pub finds : (b : Block) → Fits b → (p : List ℕ) (w : Walk) → fits_of b w ≡ true → part (length_of b) p w.at ≡ bytes_of b → block_in (kind_of b) p w ≡ b
unfolding generic_at site_at task_at cut_at radial_at moment_at
finds (generic r) h p w f e = ap generic (ap generic_of e ∙ generic-trip.there_and_back r h)
finds (site r) h p w f e = ap site (ap site_of e ∙ site-trip.there_and_back r h)
finds (task r) h p w f e = ap task (ap task_of e ∙ task-trip.there_and_back r h)
finds (cut r) h p w f e = ap cut (ap cut_of e ∙ cut-trip.there_and_back r h)
finds (radial r) h p w f e = ap radial (ap radial_of e ∙ radial-trip.there_and_back r h)
finds (moment r) h p w f e = ap moment (ap moment_of e ∙ moment-trip.there_and_back r h)
finds («data» bs) h p w f e = ap «data» (ap (λ (n : ℕ). part n p w.at) (sym (eqb-true (length bs) w.rest.length f)) ∙ e)

-- what it says of a block is what is said of the block that stands there; a radial's cut is to be the same in both
pub says-in : (d : Due) (p room : List ℕ) (w : Walk) → is_end d ≡ false → (d ≡ due.Radial → part 256 p (cut_place w.count.cut) ≡ part 256 room (cut_place w.count.cut))
    → say_block d p w ≡ says_of (block_in d p w) room w
unfolding block_at hope_at hoping is_end cut_at
says-in due.Generic p room w i c = refl
says-in due.Site p room w i c = refl
says-in due.Task p room w i c = refl
says-in due.Cut p room w i c = refl
says-in due.Radial p room w i c = ap (λ (l : List ℕ). say_radial (radial_at p w.at) (cut_of l) w) (c refl)
says-in due.Moment p room w i c = refl
says-in due.Data p room w i c = refl
says-in due.Nothing p room w i c = absurd (let z : ◌≡◌ {A = ℕ} 0 1 = cc in omega arith)

-- ---- a block that stands in a file

pub kind-in : (d : Due) (f : List ℕ) (w : Walk) → is_end d ≡ false → kind_of (block_in d f w) ≡ d
unfolding is_end
kind-in due.Generic f w i = refl
kind-in due.Site f w i = refl
kind-in due.Task f w i = refl
kind-in due.Cut f w i = refl
kind-in due.Radial f w i = refl
kind-in due.Moment f w i = refl
kind-in due.Data f w i = refl
kind-in due.Nothing f w i = absurd (let z : ◌≡◌ {A = ℕ} 0 1 = cc in omega arith)

pub fits_in : (d : Due) (f : List ℕ) (w : Walk) → is_end d ≡ false → fits_of (block_in d f w) w ≡ true
unfolding is_end
fits_in due.Generic f w i = refl
fits_in due.Site f w i = refl
fits_in due.Task f w i = refl
fits_in due.Cut f w i = refl
fits_in due.Radial f w i = refl
fits_in due.Moment f w i = refl
fits_in due.Data f w i = eq-eqb _ _ (length_part w.rest.length f w.at)
fits_in due.Nothing f w i = absurd (let z : ◌≡◌ {A = ℕ} 0 1 = cc in omega arith)

-- its bytes are those that stand there
pub bytes-in : (d : Due) (f : List ℕ) (w : Walk) → Bytes f → is_end d ≡ false → bytes_of (block_in d f w) ≡ part (size_at d w.rest.length) f w.at
unfolding is_end size_at generic_at site_at task_at cut_at radial_at moment_at
bytes-in due.Generic f w bs i = generic-trip.back-and-there (part 32 f w.at) (part_bytes 32 f w.at bs) (length_part 32 f w.at)
bytes-in due.Site f w bs i = site-trip.back-and-there (part 128 f w.at) (part_bytes 128 f w.at bs) (length_part 128 f w.at)
bytes-in due.Task f w bs i = task-trip.back-and-there (part 256 f w.at) (part_bytes 256 f w.at bs) (length_part 256 f w.at)
bytes-in due.Cut f w bs i = cut-trip.back-and-there (part 256 f w.at) (part_bytes 256 f w.at bs) (length_part 256 f w.at)
bytes-in due.Radial f w bs i = radial-trip.back-and-there (part 64 f w.at) (part_bytes 64 f w.at bs) (length_part 64 f w.at)
bytes-in due.Moment f w bs i = moment-trip.back-and-there (part 32 f w.at) (part_bytes 32 f w.at bs) (length_part 32 f w.at)
bytes-in due.Data f w bs i = refl
bytes-in due.Nothing f w bs i = absurd (let z : ◌≡◌ {A = ℕ} 0 1 = cc in omega arith)

-- a file's front up to its end has the same block
pub block-front : (d : Due) (f : List ℕ) (w : Walk) → block_in d (take (w.at + size_at d w.rest.length) f) w ≡ block_in d f w
unfolding size_at generic_at site_at task_at cut_at radial_at moment_at
block-front due.Generic f w = ap (λ (l : List ℕ). generic (generic_of l)) (part-take 32 f w.at (w.at + 32) (omega arith))
block-front due.Site f w = ap (λ (l : List ℕ). site (site_of l)) (part-take 128 f w.at (w.at + 128) (omega arith))
block-front due.Task f w = ap (λ (l : List ℕ). task (task_of l)) (part-take 256 f w.at (w.at + 256) (omega arith))
block-front due.Cut f w = ap (λ (l : List ℕ). cut (cut_of l)) (part-take 256 f w.at (w.at + 256) (omega arith))
block-front due.Radial f w = ap (λ (l : List ℕ). radial (radial_of l)) (part-take 64 f w.at (w.at + 64) (omega arith))
block-front due.Moment f w = ap (λ (l : List ℕ). moment (moment_of l)) (part-take 32 f w.at (w.at + 32) (omega arith))
block-front due.Data f w = ap «data» (part-take w.rest.length f w.at (w.at + w.rest.length) (omega arith))
block-front due.Nothing f w = refl

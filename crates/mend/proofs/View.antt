-- A file by its structure, up to the last radial that is kept, and the volume that it is to become. Assumes nothing.
use Prim.Native.Nat.{ℕ, suc, ◌+◌, ◌≤◌}
use mathlib.Core.List.{List, [], ◌∷◌, ◌++◌}
use mathlib.Core.Path.{◌≡◌}
use lib.ListN.{length}
use Rattle.rules.specs.States.{closing}
use Rattle.task.specs.declared.Task.{Task}
use Rattle.reading.specs.declared.Stretch.{Stretch}
use Rattle.volume.specs.Volume.{VolumeRadial, Volume, RadialOk, bytes_of_radial, bytes_of_volume}
use Rattle.volume.specs.Accepted.{Begun, BegunOk, volume_of, radials_in}
use Rattle.volume.specs.Meaning.{volume_stretches}
use Rattle.mend.specs.Answers.{with_state}
use Rattle.mend.specs.Kept.{kept}
use Rattle.mend.specs.Made.{with_cuts}

-- where a radial of cut k lies that begins at a place
abbrev pub stretch_at : ℕ → ℕ → VolumeRadial → Stretch
stretch_at k at r = record { start = at; end = at + length (bytes_of_radial r); cut = k }

-- ---- a radial behind a volume's beginning

-- the number of its cut: as many cuts have radials
abbrev pub cuts_of : Begun → ℕ
cuts_of b = suc (length b.closed)

abbrev pub stretch_behind : Begun → VolumeRadial → Stretch
stretch_behind b r = stretch_at (cuts_of b) (length (bytes_of_volume (volume_of b))) r

-- the beginning with it in its last layer
abbrev pub whole : Begun → VolumeRadial → Volume
whole b r =
    record { generic = b.generic; site = b.site; task = b.task; cuts = b.early ++ (b.cut ∷ b.later); layers = b.closed ++ ((b.now ++ (r ∷ [])) ∷ []) }

-- the radial r behind b, the last that is kept: it keeps its rules, whether it closes its cut or not, and another of its cut is before it
pub record Last (b : Begun) (r : VolumeRadial) : Type 0 where
  pub begun : BegunOk b
  pub radial : RadialOk b.task b.cut (suc (length b.closed)) (radials_in b.closed + length b.now) (length b.now) r
  pub two : 1 ≤ length b.now

-- a file with such a radial
pub record View (f : List ℕ) : Type 0 where
  pub begun : Begun
  pub final : VolumeRadial
  pub last : Last begun final
  pub rest : List ℕ
  pub bytes : bytes_of_volume (volume_of begun) ++ (bytes_of_radial final ++ rest) ≡ f
  pub kept : kept f ≡ volume_stretches (volume_of begun) ++ (stretch_behind begun final ∷ [])

-- ---- the volume that it becomes

-- with no cut behind the last that has radials
abbrev pub closed_task : Begun → Task
closed_task b = with_cuts b.task (cuts_of b)

abbrev pub closed_begun : Begun → Begun
closed_begun b = record { generic = b.generic; site = b.site; task = closed_task b; early = b.early; closed = b.closed; cut = b.cut; now = b.now; later = [] }

-- the last radial with the state that closes the last cut
abbrev pub closed_radial : Begun → VolumeRadial → VolumeRadial
closed_radial b r = record { header = with_state r.header (closing b.task.scan_type (cuts_of b) (cuts_of b)); moments = r.moments }

abbrev pub closed_volume : Begun → VolumeRadial → Volume
closed_volume b r = whole (closed_begun b) (closed_radial b r)

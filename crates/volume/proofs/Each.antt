-- The radials of a layer one by one, whether it is closed or not: each keeps its rules in its place. Assumes nothing.
use Prim.Native.Nat.{ℕ, suc}
use mathlib.Core.List.{List, [], ◌∷◌}
use Rattle.cut.specs.declared.Cut.{Cut}
use Rattle.task.specs.declared.Task.{Task}
use Rattle.volume.specs.Volume.{VolumeRadial, RadialOk, LayerOk}
use Rattle.volume.specs.Accepted.{UnclosedOk}

module _ (t : Task) (c : Cut) (k : ℕ) where
  abbrev pub Each : ℕ → ℕ → List VolumeRadial → Type 0
  Each before in_cut [] = Unit {0}
  Each before in_cut (b ∷ bs) = RadialOk t c k before in_cut b × Each (suc before) (suc in_cut) bs

  pub each-closed : (before in_cut : ℕ) (l : List VolumeRadial) → LayerOk t c k before in_cut l → Each before in_cut l
  each-closed before in_cut [] ok = tt
  each-closed before in_cut (b ∷ []) ok = (ok.0, tt)
  each-closed before in_cut (b ∷ (n ∷ ns)) ok = (ok.0, each-closed (suc before) (suc in_cut) (n ∷ ns) ok.2)

  pub each-unclosed : (before in_cut : ℕ) (l : List VolumeRadial) → UnclosedOk t c k before in_cut l → Each before in_cut l
  each-unclosed before in_cut [] ok = tt
  each-unclosed before in_cut (b ∷ bs) ok = (ok.0, each-unclosed (suc before) (suc in_cut) bs ok.2)

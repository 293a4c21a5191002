-- How far a volume's counts go: a radial's own rules say which place it has, so those of the last one say how many there are.
-- Assumes nothing.
use Prim.Native.Nat.{ℕ, suc, ◌+◌, ◌*◌, ◌≤◌}
use native.Mathlib.Omega.{arith}
use mathlib.Core.Path.{◌≡◌, sym, ◌∙◌}
use mathlib.Core.List.{List, [], ◌∷◌}
use lib.ListN.{length, length-append}
use Rattle.rules.proofs.Allowed.{cuts-allowed}
use Rattle.rules.proofs.Numbers.{most_cuts-most}
use Rattle.cut.specs.declared.Cut.{Cut}
use Rattle.task.specs.declared.Task.{Task}
use Rattle.radial.proofs.Header.{header}
use Rattle.volume.specs.Volume.{VolumeRadial, Volume, IsVolume, LayerOk, LayersOk}
use Rattle.volume.specs.Accepted.{Begun, BegunOk, radials_in, due_radial}
use Rattle.volume.specs.Sense.{Numbered, LayersNumbered, Few, Most}
use Rattle.volume.proofs.Each.{Each, each-closed, each-unclosed}
use Rattle.volume.proofs.Tells.{same_number}

module _ (t : Task) (c : Cut) (k : ℕ) where
  numbered : (before in_cut : ℕ) (l : List VolumeRadial) → Each t c k before in_cut l → Numbered k before in_cut l
  numbered before in_cut [] ok = tt
  numbered before in_cut (b ∷ bs) ok =
      let h = header b.header _ ok.0.rules in
      let s = h.sequence in
      let n = h.number in
      (omega arith, omega arith, h.elevation, numbered (suc before) (suc in_cut) bs ok.1)

  -- a layer's last radial has the count of all before it
  record Counted (before in_cut : ℕ) (l : List VolumeRadial) : Type 0 where
    layer : in_cut + length l ≤ 1000
    volume : before + length l ≤ 65536

  counted : (before in_cut : ℕ) (b : VolumeRadial) (bs : List VolumeRadial) → Each t c k before in_cut (b ∷ bs) → Counted before in_cut (b ∷ bs)
  counted before in_cut b [] ok =
      let h = header b.header _ ok.0.rules in
      let l = h.in-layer in
      let v = h.in-volume in
      record { layer = omega arith; volume = omega arith }
  counted before in_cut b (n ∷ ns) ok =
      let r = counted (suc before) (suc in_cut) n ns ok.1 in
      let l = r.layer in
      let v = r.volume in
      record { layer = omega arith; volume = omega arith }

  closed : (before : ℕ) (l : List VolumeRadial) → LayerOk t c k before 0 l → Counted before 0 l
  closed before [] ok = absurd ok
  closed before (b ∷ bs) ok = counted before 0 b bs (each-closed t c k before 0 (b ∷ bs) ok)

  unclosed : (before : ℕ) (l : List VolumeRadial) → Each t c k before 0 l → length l ≤ 1000
  unclosed before [] ok = omega arith
  unclosed before (b ∷ bs) ok = let l = (counted before 0 b bs ok).layer in omega arith

layers-numbered : (t : Task) (k before : ℕ) (cs : List Cut) (ls : List (List VolumeRadial)) → LayersOk t k before cs ls → LayersNumbered k before ls
layers-numbered t k before cs [] ok = tt
layers-numbered t k before [] (l ∷ ls) ok = absurd ok
layers-numbered t k before (c ∷ cs) (l ∷ ls) ok =
    (numbered t c k before 0 l (each-closed t c k before 0 l ok.0), layers-numbered t (suc k) (before + length l) cs ls ok.1)

layers-few : (t : Task) (k before : ℕ) (cs : List Cut) (ls : List (List VolumeRadial)) → LayersOk t k before cs ls → Few ls
layers-few t k before cs [] ok = tt
layers-few t k before [] (l ∷ ls) ok = absurd ok
layers-few t k before (c ∷ cs) (l ∷ ls) ok =
    let n = (closed t c k before l ok.0).layer in
    (omega arith, layers-few t (suc k) (before + length l) cs ls ok.1)

layers-all : (t : Task) (k before : ℕ) (cs : List Cut) (ls : List (List VolumeRadial)) → before ≤ 65536 → LayersOk t k before cs ls → before + radials_in ls ≤ 65536
layers-all t k before cs [] h ok = omega arith
layers-all t k before [] (l ∷ ls) h ok = absurd ok
layers-all t k before (c ∷ cs) (l ∷ ls) h ok =
    let n = layers-all t (suc k) (before + length l) cs ls (closed t c k before l ok.0).volume ok.1 in
    omega arith

pub volume-numbered : (v : Volume) → IsVolume v → LayersNumbered 1 0 v.layers
volume-numbered v is = layers-numbered v.task 1 0 v.cuts v.layers is.layers

pub volume-most : (v : Volume) → IsVolume v → Most v
volume-most v is =
    let n = same_number v.task 1 0 v.cuts v.layers is.layers in
    let m = is.headed.number in
    let cuts = (cuts-allowed v.task.scan_type v.task.cut_number).0 is.headed.task.1.1.1.1.0 in
    let some = cuts.0 in
    let most = cuts.1 in
    let limit = most_cuts-most v.task.scan_type in
    let all = layers-all v.task 1 0 v.cuts v.layers (omega arith) is.layers in
    record { some = omega arith; cuts = omega arith; layers = layers-few v.task 1 0 v.cuts v.layers is.layers; radials = omega arith }

few-all : (ls : List (List VolumeRadial)) → Few ls → radials_in ls ≤ 1000 * length ls
few-all [] h = omega arith
few-all (l ∷ ls) h = let n = few-all ls h.1 in let m = h.0 in omega arith

pub begun-before : (b : Begun) → BegunOk b → (due_radial b).before ≤ 1000 * b.task.cut_number
begun-before b is =
    let t = b.task in
    let early = same_number t 1 0 b.early b.closed is.closed in
    let cuts : length b.early + suc (length b.later) ≡ t.cut_number = sym (length-append b.early (b.cut ∷ b.later)) ∙ is.headed.number in
    let closed = few-all b.closed (layers-few t 1 0 b.early b.closed is.closed) in
    let now = unclosed t b.cut _ _ b.now (each-unclosed t b.cut _ _ 0 b.now is.now) in
    omega arith

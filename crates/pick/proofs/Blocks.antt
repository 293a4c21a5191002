-- One cut block and one radial: what a pick makes of a record's bytes are the bytes of what it makes of the record. Assumes nothing.
use Prim.Native.Nat.{ℕ, suc, ◌+◌}
use native.Mathlib.Omega.{arith}
use borrow.Author.Tests.{eq-eqb, eqb-true, le-leb}
use mathlib.Core.Bool.{Bool, true, false, cond}
use mathlib.Core.List.{List, [], ◌∷◌, ◌++◌, append_assoc}
use mathlib.Core.Logic.{◌↔◌}
use mathlib.Core.Path.{◌≡◌, refl, sym, ap, ap₂, subst, ◌∙◌}
use lib.Bits.{bit_and}
use lib.ListN.{length, take, drop, length-append}
use lib.Seq.{take_at, drop_at}
use Rattle.le.specs.Le.{bytes, patch, run}
use Rattle.le.proofs.Here.{At, here}
use Rattle.le.proofs.Coded.{stands}
use Rattle.le.proofs.Laws.{length-bytes, length_run, part-take, run-append}
use Rattle.rules.specs.Masks.{bit}
use Rattle.cut.specs.declared.Cut.{Cut}
use Rattle.cut.specs.Cut.{cut_of, cut_bytes, CutFits}
use Rattle.cut.proofs.Trips as cut-trip
use Rattle.moment.specs.declared.Moment.{Moment}
use Rattle.moment.specs.Moment.{moment_of, moment_at, moment_bytes}
use Rattle.moment.proofs.Trips as moment-trip
use Rattle.moments.specs.Moments.{after, moments_from}
use Rattle.radial.specs.declared.Radial.{Radial}
use Rattle.radial.specs.Radial.{radial_at, radial_bytes}
use Rattle.radial.proofs.Trips as radial-trip
use Rattle.volume.specs.Volume.{VolumeMoment, VolumeRadial, MomentsOk, bytes_of_moment, bytes_of_radial, tiled}
use Rattle.retold.proofs.Own.{header-there}
use Rattle.mend.proofs.Pieces.{patch-mid}
use Rattle.pick.specs.Keep.{wanted_in, wanted_of, moment_run, kept_bytes, picked_radial}
use Rattle.pick.specs.Only.{only_cut, only_moments, only_radial}
use Rattle.pick.specs.Pick.{empties, picked_cut}
use Rattle.pick.proofs.Owned.{Ok}

-- ---- a cut

-- its bytes before and behind its moments mask
abbrev cut_front : Cut → List ℕ
cut_front c =
    run (bytes 4) (c.process_mode ∷ c.wave_form ∷ c.prf1 ∷ c.prf2 ∷ c.unfold_mode ∷ c.azimuth ∷ c.elevation ∷ c.start_angle ∷ c.end_angle ∷ c.angular_resolution ∷ c.scan_speed ∷ c.log_resolution ∷ c.doppler_resolution ∷ c.maximum_range1 ∷ c.maximum_range2 ∷ c.start_range ∷ c.sample1 ∷ c.sample2 ∷ c.phase_mode ∷ c.atmospheric_loss ∷ c.nyquist_speed ∷ [])

abbrev cut_back : Cut → List ℕ
cut_back c =
    bytes 8 c.size_mask
    ++ run (bytes 4) (c.filter_mask ∷ c.sqi_threshold ∷ c.sig_threshold ∷ c.csr_threshold ∷ c.log_threshold ∷ c.cpa_threshold ∷ c.pmi_threshold ∷ c.dplog_threshold ∷ c.thresholds_reserved ∷ c.db_mask ∷ c.dbz_mask ∷ c.velocity_mask ∷ c.spectrum_width_mask ∷ c.dp_mask ∷ [])
    ++ c.mask_reserved
    ++ run (bytes 4) (c.scan_sync ∷ c.direction ∷ [])
    ++ run (bytes 2) (c.clutter_classifier ∷ c.clutter_filter ∷ c.clutter_notch_width ∷ c.clutter_window ∷ [])
    ++ c.reserved

cut_parts : (c : Cut) → cut_bytes c ≡ cut_front c ++ (bytes 8 c.moments_mask ++ cut_back c)
unfolding cut_bytes
cut_parts c = simp append_assoc

-- a cut's bytes with its mask cut down are those of the cut with that mask
pub cut-picked : (wanted : ℕ) (c : Cut) → CutFits c → picked_cut wanted (cut_bytes c) ≡ cut_bytes (only_cut wanted c)
unfolding picked_cut cut_of
cut-picked wanted c fits =
    let mask = c.moments_mask in
    let new = bit_and mask wanted in
    let is = ap (λ (r : Cut). r.moments_mask) (cut-trip.there_and_back c fits) in
    ap₂ (λ (b : List ℕ) (m : ℕ). patch b 84 (bytes 8 (bit_and m wanted))) (cut_parts c) is
    ∙ patch-mid (cut_front c) (bytes 8 mask) (bytes 8 new) (cut_back c) 84 (length_run (bytes 4) 4 (length-bytes 4) _) (length-bytes 8 new ∙ sym (length-bytes 8 mask))
    ∙ sym (cut_parts (only_cut wanted c))

-- ---- a radial's moments

module _ (wanted : ℕ) where
  -- those that are left take as many bytes as their headers say
  only-long : (c : Cut) (r : Radial) (before ps : List VolumeMoment) → MomentsOk c r before ps → length (run bytes_of_moment (only_moments wanted ps)) ≡ tiled (only_moments wanted ps)
  unfolding run
  only-long c r before [] ok = refl
  only-long c r before (p ∷ ps) ok =
      let qs = only_moments wanted ps in
      let head = moment-trip.length-is p.header ok.0 in
      let long = ok.2 in
      let one = length-append (moment_bytes p.header) p.bytes in
      let more = length-append (bytes_of_moment p) (run bytes_of_moment qs) in
      let rest = only-long c r (p ∷ before) ps ok.3 in
      go (bit wanted p.header.data_type) (omega arith) rest
    where
      go : (t : Bool) → length (run bytes_of_moment (p ∷ only_moments wanted ps)) ≡ tiled (p ∷ only_moments wanted ps) → length (run bytes_of_moment (only_moments wanted ps)) ≡ tiled (only_moments wanted ps)
          → length (run bytes_of_moment (cond t (p ∷ only_moments wanted ps) (only_moments wanted ps))) ≡ tiled (cond t (p ∷ only_moments wanted ps) (only_moments wanted ps))
      go true kept rest = kept
      go false kept rest = rest

  module _ (b : List ℕ) where
    -- the wanted ones of the moments at some places are those of ps
    record Holds (ats : List ℕ) (ps : List VolumeMoment) : Type 0 where
      pub bytes : run (moment_run b) (wanted_in wanted b ats) ≡ run bytes_of_moment (only_moments wanted ps)
      pub count : length (wanted_in wanted b ats) ≡ length (only_moments wanted ps)

    -- one more, before them
    holds_more : (at : ℕ) (ats : List ℕ) (p : VolumeMoment) (ps : List VolumeMoment) → moment_at b at ≡ p.header → moment_run b at ≡ bytes_of_moment p → Holds ats ps → Holds (at ∷ ats) (p ∷ ps)
    unfolding run wanted_in
    holds_more at ats p ps is own h = let same = ap (λ (m : Moment). bit wanted m.data_type) is in let x = go (bit wanted p.header.data_type) in record { bytes = rw same x.0; count = rw same x.1 }
      where
        go : (t : Bool)
            → (run (moment_run b) (cond t (at ∷ wanted_in wanted b ats) (wanted_in wanted b ats)) ≡ run bytes_of_moment (cond t (p ∷ only_moments wanted ps) (only_moments wanted ps)))
            × (length (cond t (at ∷ wanted_in wanted b ats) (wanted_in wanted b ats)) ≡ length (cond t (p ∷ only_moments wanted ps) (only_moments wanted ps)))
        go true = (ap₂ (λ (x y : List ℕ). x ++ y) own h.bytes, ap suc h.count)
        go false = (h.bytes, h.count)

    -- the places of moments that stand one behind the other
    holds : (c : Cut) (r : Radial) (before ps : List VolumeMoment) (at : ℕ) → MomentsOk c r before ps → At b at (run bytes_of_moment ps) → Holds (moments_from (length ps) b at) ps
    unfolding moment_at moments_from run wanted_in
    holds c r before [] at ok a = record { bytes = refl; count = refl }
    holds c r before (p ∷ ps) at ok a =
        let m = p.header in
        let later = run bytes_of_moment ps in
        let size = 32 + m.length in
        let x = stands moment-trip.coded b at m (p.bytes ++ later) ok.0 (subst (At b at) (append_assoc (moment_bytes m) p.bytes later) a) in
        let y = here b (at + 32) m.length p.bytes later ok.2 x.next in
        let is : moment_at b at ≡ m = ap moment_of (sym (part-take 32 b at (at + 32) (omega arith))) ∙ x.is in
        let head = moment-trip.length-is m ok.0 in
        let data-long = ok.2 in
        let long = length-append (moment_bytes m) p.bytes in
        let own : moment_run b at ≡ bytes_of_moment p = ap (λ (k : Moment). take (32 + k.length) (drop at b)) is ∙ ap (take size) a.rest ∙ take_at (bytes_of_moment p) later size (omega arith) in
        let next : after b at ≡ at + 32 + m.length = ap (λ (k : Moment). at + 32 + k.length) is in
        rw (le-leb (at + 32) (length b) x.room, next)
        (holds_more at (moments_from (length ps) b (at + 32 + m.length)) p ps is own (holds c r (p ∷ before) ps (at + 32 + m.length) ok.3 y.next))

-- ---- a radial

-- its last two numbers and its reserved bytes, with its moments behind them
two-apart : (ns : List ℕ) (x y : ℕ) (z k : List ℕ) → run (bytes 4) (ns ++ (x ∷ y ∷ [])) ++ z ++ k ≡ run (bytes 4) ns ++ (bytes 4 x ++ (bytes 4 y ++ (z ++ k)))
unfolding run
two-apart ns x y z k = rw (run-append (bytes 4) ns (x ∷ y ∷ [])) (simp append_assoc)

-- both numbers changed
two-patched : (ns : List ℕ) (x y u w : ℕ) (z k : List ℕ) → length ns ≡ 9
    → patch (patch (run (bytes 4) (ns ++ (x ∷ y ∷ [])) ++ z ++ k) 36 (bytes 4 u)) 40 (bytes 4 w) ≡ run (bytes 4) (ns ++ (u ∷ w ∷ [])) ++ z ++ k
two-patched ns x y u w z k l =
    let a = run (bytes 4) ns in
    let long = length_run (bytes 4) 4 (length-bytes 4) ns in
    let i = length-bytes 4 x in
    let j = length-bytes 4 y in
    let m = length-bytes 4 u in
    let n = length-bytes 4 w in
    let b = length-append a (bytes 4 u) in
    ap (λ (f : List ℕ). patch (patch f 36 (bytes 4 u)) 40 (bytes 4 w)) (two-apart ns x y z k)
    ∙ ap (λ (f : List ℕ). patch f 40 (bytes 4 w))
    (patch-mid a (bytes 4 x) (bytes 4 u) (bytes 4 y ++ (z ++ k)) 36 (omega arith) (omega arith) ∙ sym (append_assoc a (bytes 4 u) (bytes 4 y ++ (z ++ k))))
    ∙ patch-mid (a ++ bytes 4 u) (bytes 4 y) (bytes 4 w) (z ++ k) 40 (omega arith) (omega arith)
    ∙ append_assoc a (bytes 4 u) (bytes 4 w ++ (z ++ k))
    ∙ sym (two-apart ns u w z k)

module _ (wanted : ℕ) (b : VolumeRadial) (is : Ok b) where
  abbrev own : List ℕ
  own = bytes_of_radial b

  abbrev left : List VolumeMoment
  left = only_moments wanted b.moments

  -- the wanted moments in a radial's own bytes are those of the radial
  pub own-holds : (kept_bytes wanted own ≡ run bytes_of_moment left) × (length (wanted_of wanted own) ≡ length left)
  own-holds =
      let h = b.header in
      let ms = run bytes_of_moment b.moments in
      let long = radial-trip.length-is h is.ok.fits in
      let all = length-append (radial_bytes h) ms in
      let a : At own 64 ms = record { within = omega arith; rest = drop_at (radial_bytes h) ms 64 long } in
      let number : (radial_at own 0).moment_number ≡ length b.moments = ap (λ (x : Radial). x.moment_number) (header-there [] h ms is.ok.fits) ∙ sym is.ok.count in
      let x = holds wanted own is.cut h [] b.moments 64 is.ok.moments a in
      rw number (x.bytes, x.count)

  -- a radial's bytes with the wanted moments only are those of the radial with them
  pub radial-picked : picked_radial wanted own ≡ bytes_of_radial (only_radial wanted b)
  unfolding picked_radial radial_bytes
  radial-picked =
      let h = b.header in
      let x = own-holds in
      let n = ap length x.0 ∙ only-long wanted is.cut h [] b.moments is.ok.moments in
      let front = take_at (radial_bytes h) (run bytes_of_moment b.moments) 64 (radial-trip.length-is h is.ok.fits) in
      let ns = h.state ∷ h.spot_blank ∷ h.sequence ∷ h.radial_number ∷ h.elevation_number ∷ h.azimuth ∷ h.elevation ∷ h.seconds ∷ h.microseconds ∷ [] in
      ap₂ (λ (i j : ℕ). patch (patch (take 64 own ++ kept_bytes wanted own) 36 (bytes 4 i)) 40 (bytes 4 j)) n x.1
      ∙ ap₂ (λ (i j : List ℕ). patch (patch (i ++ j) 36 (bytes 4 (tiled left))) 40 (bytes 4 (length left))) front x.0
      ∙ two-patched ns h.length_of_data h.moment_number (tiled left) (length left) h.reserved (run bytes_of_moment left) refl

  -- and it has none left where those are none
  pub empties-is : (empties wanted own ≡ true) ↔ (left ≡ [])
  empties-is = let n = own-holds.1 in (λ e. none left (let z = eqb-true (length (wanted_of wanted own)) 0 e in omega arith), λ e. eq-eqb (length (wanted_of wanted own)) 0 (n ∙ ap length e))
    where
      none : (l : List VolumeMoment) → length l ≡ 0 → l ≡ []
      none [] e = refl
      none (x ∷ l) e = absurd (omega arith)

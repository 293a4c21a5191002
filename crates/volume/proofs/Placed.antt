-- The radials of a volume's beginning stand in their own place in any file that begins with its bytes: so each whole radial of
-- any file does. Assumes nothing.
use Prim.Native.Nat.{ℕ, suc, ◌+◌, ◌-◌, ◌*◌, ◌≤◌}
use native.Mathlib.Omega.{arith}
use mathlib.Core.Path.{◌≡◌, refl, sym, ap, subst, ◌∙◌}
use mathlib.Core.List.{List, [], ◌∷◌, ◌++◌, append_assoc, append-nil}
use lib.ListN.{length, length-append}
use borrow.Author.Tests.{eq-eqb, ne_eqb}
use Rattle.le.specs.Le.{run, part, Bytes}
use Rattle.le.proofs.Here.{At, here}
use Rattle.le.proofs.Coded.{Coded, stands}
use Rattle.le.proofs.Laws.{part-take, run_end}
use Rattle.rules.specs.Check.{Hold}
use Rattle.rules.proofs.Judged.{fine-if}
use Rattle.cut.specs.declared.Cut.{Cut}
use Rattle.cut.specs.Cut.{cut_at, cut_bytes}
use Rattle.cut.proofs.Trips as cut-trip
use Rattle.generic.specs.Generic.{generic_bytes}
use Rattle.generic.proofs.Trips as generic-trip
use Rattle.site.specs.Site.{site_bytes}
use Rattle.site.proofs.Trips as site-trip
use Rattle.task.specs.declared.Task.{Task}
use Rattle.task.specs.Task.{task_at, task_bytes}
use Rattle.task.proofs.Trips as task-trip
use Rattle.radial.specs.declared.Radial.{Radial}
use Rattle.radial.specs.declared.RadialDue.{RadialDue}
use Rattle.radial.specs.Radial.{radial_at, radial_bytes, radial_check, radial_rules}
use Rattle.radial.proofs.Trips as radial-trip
use Rattle.moment.specs.Moment.{moment_at, moment_bytes, moment_check, moment_rules}
use Rattle.moment.proofs.Trips as moment-trip
use Rattle.walk.specs.Due.{cut_place}
use Rattle.reading.specs.declared.Stretch.{Stretch}
use Rattle.reading.specs.Reading.{plain_stretches}
use Rattle.reading.specs.Tiling.{due_with, Tiled, none, WholeRadial}
use Rattle.reading.proofs.Radials.{said, tile-more}
use Rattle.volume.specs.Volume.{VolumeMoment, VolumeRadial, Volume, IsVolume, Headed, bytes_of_moment, bytes_of_radial, bytes_of_volume, tiled, types_of, judged_radial, MomentsOk, RadialOk, LayerOk, LayersOk, CutsOk}
use Rattle.volume.specs.Accepted.{Begun, BegunOk, Accepted, AcceptedOk, nothing, generic, site, task, radials, radial, moment, volume, volume_of, bytes_of_accepted, radials_in, UnclosedOk}
use Rattle.volume.specs.Meaning.{layer_stretches, layers_stretches, volume_stretches, accepted_stretches, end_of, first_place, Accepts}
use Rattle.volume.specs.InPlace.{task_block, cut_block, of_cut, InPlace, AllInPlace}
use Rattle.volume.proofs.Accepts.{accepts}
use Rattle.volume.proofs.Each.{Each, each-closed, each-unclosed}
use Rattle.volume.proofs.Layers.{ends_at, stretches-end}
use Rattle.volume.proofs.Tells.{same_number}

apart : (a b c d : List ℕ) → ((a ++ b) ++ c) ++ d ≡ a ++ (b ++ (c ++ d))
apart a b c d = simp append_assoc

pub apart-end : (a b c d : List ℕ) → a ++ ((b ++ c) ++ d) ≡ ((a ++ b) ++ c) ++ d
apart-end a b c d = simp append_assoc

-- ---- a record that stands in the file is read there

module _ {A : Type 0} (K : Coded A) where
  read-there : (f : List ℕ) (at : ℕ) (r : A) (g : List ℕ) → K.Fits r → At f at (K.enc r ++ g) → (K.dec (part K.size f at) ≡ r) × At f (at + K.size) g
  read-there f at r g h a =
      let x = stands K f at r g h a in
      (ap K.dec (sym (part-take K.size f at (at + K.size) (omega arith))) ∙ x.is, x.next)

-- ---- a radial's moments tile it

module _ (f : List ℕ) (c : Cut) (r : Radial) where
  abbrev Tiles : List VolumeMoment → ℕ → ℕ → ℕ → Type 0
  Tiles before todo at end = Tiled f c.moments_mask c.size_mask (types_of before) (r.length_of_data - tiled before) todo at end

  tile : (ps before : List VolumeMoment) (at end : ℕ) (g : List ℕ) → length ps + length before ≡ r.moment_number → MomentsOk c r before ps → At f at (run bytes_of_moment ps ++ g)
      → end ≡ at + length (run bytes_of_moment ps) → Tiles before (length ps) at end × At f end g
  unfolding run moment_at moment_check
  tile [] before at end g n ok a e = let z : at ≡ end = omega arith in (subst (Tiles before 0 at) z none, subst (λ (n : ℕ). At f n g) z a)
  tile (p ∷ ps) before at end g n ok a e =
      let h = p.header in
      let later = run bytes_of_moment ps ++ g in
      let x = read-there moment-trip.coded f at h (p.bytes ++ later) ok.0 (subst (At f at) (apart (moment_bytes h) p.bytes (run bytes_of_moment ps) g) a) in
      let y = here f (at + 32) h.length p.bytes later ok.2 x.1 in
      let lm = moment-trip.length-is h ok.0 in
      let lp = ok.2 in
      let l : length ((moment_bytes h ++ p.bytes) ++ run bytes_of_moment ps) ≡ 32 + h.length + length (run bytes_of_moment ps) = simp length-append (omega arith) in
      let one : suc (length ps) - 1 ≡ length ps = omega arith in
      let two : (r.length_of_data - tiled before) - (32 + h.length) ≡ r.length_of_data - (32 + h.length + tiled before) = omega arith in
      let todo : r.moment_number - length before ≡ suc (length ps) = omega arith in
      let rules = moment_rules h (due_with c.moments_mask c.size_mask (types_of before) (r.length_of_data - tiled before) (suc (length ps))) in
      let fine : Hold rules = rw todo at ok.1 in
      let z = tile ps (p ∷ before) (at + 32 + h.length) end g (omega arith) ok.3 y.next (omega arith) in
      (tile-more f _ _ _ _ (suc (length ps)) at end h (sym x.0) (omega arith) (fine-if rules fine) (rw (one, two) z.0), z.1)

-- ---- a radial, a layer, the layers

module _ (f : List ℕ) where
  placed : (k at : ℕ) (b : VolumeRadial) (g : List ℕ) (before : List Stretch) → RadialOk (task_block f) (cut_block f k) k (length before) (of_cut k before) b → At f at (bytes_of_radial b ++ g)
      → InPlace f before (record { start = at; end = at + length (bytes_of_radial b); cut = k }) × At f (at + length (bytes_of_radial b)) g
  unfolding radial_at radial_check
  placed k at b g before ok a =
      let against : RadialDue = judged_radial (task_block f) k (length before) (of_cut k before) in
      let c = cut_block f k in
      let r = b.header in
      let ms = run bytes_of_moment b.moments in
      let end = at + length (bytes_of_radial b) in
      let x = read-there radial-trip.coded f at r (ms ++ g) ok.fits (subst (At f at) (append_assoc (radial_bytes r) ms g) a) in
      let lr = radial-trip.length-is r ok.fits in
      let la = length-append (radial_bytes r) ms in
      let t = tile f c r b.moments [] (at + 64) end g (let n = ok.count in omega arith) ok.moments x.1 (omega arith) in
      let nothing : r.length_of_data - 0 ≡ r.length_of_data = omega arith in
      let u : Tiled f c.moments_mask c.size_mask 0 r.length_of_data r.moment_number (at + 64) end =
      subst (λ (n : ℕ). Tiled f c.moments_mask c.size_mask 0 r.length_of_data n (at + 64) end) ok.count (rw nothing at t.0) in
      let w : WholeRadial f (record { start = at; end = end; cut = k }) =
      record {
        against = against;
        cut = refl;
        header = ap (λ (h : Radial). radial_check h against) x.0 ∙ fine-if (radial_rules r against) ok.rules;
        mask = c.moments_mask;
        sizes = c.size_mask;
        moments = subst (λ (h : Radial). Tiled f c.moments_mask c.size_mask 0 h.length_of_data h.moment_number (at + 64) end) (sym x.0) u;
      } in
      (record { whole = w; against = refl; mask = refl; sizes = refl; end = (said f _ w).end }, t.1)

  -- none of some radials is of cut k or a later one
  abbrev NoneFrom : ℕ → List Stretch → Type 0
  NoneFrom k before = (j : ℕ) → k ≤ j → of_cut j before ≡ 0

  -- the rest of a layer of cut k, which stands behind the radials `before`
  layer : (l : List VolumeRadial) (k at : ℕ) (g : List ℕ) (before ss : List Stretch) → Each (task_block f) (cut_block f k) k (length before) (of_cut k before) l → At f at (run bytes_of_radial l ++ g) → NoneFrom (suc k) before
      → ((more : List Stretch) → length more ≡ length before + length l → NoneFrom (suc k) more → At f (end_of at l) g → AllInPlace f more ss)
      → AllInPlace f before (layer_stretches k at l ++ ss)
  unfolding run
  layer [] k at g before ss ok a later next = next before (omega arith) later a
  layer (b ∷ bs) k at g before ss ok a later next =
      let e = at + length (bytes_of_radial b) in
      let s : Stretch = record { start = at; end = e; cut = k } in
      let x = placed k at b (run bytes_of_radial bs ++ g) before ok.0 (subst (At f at) (append_assoc (bytes_of_radial b) (run bytes_of_radial bs) g) a) in
      let own : of_cut k (s ∷ before) ≡ suc (of_cut k before) = rw (eq-eqb k k refl) (omega arith) in (
        x.0,
        layer bs k e g (s ∷ before) ss (subst (λ (n : ℕ). Each (task_block f) (cut_block f k) k (suc (length before)) n bs) (sym own) ok.1) x.1
            (λ j h. let z = later j h in rw (ne_eqb k j (λ q. omega arith)) (omega arith))
            (λ more n h i. next more (omega arith) h i),
      )

  -- the cuts from number k on, as they stand in the file
  abbrev pub CutsIn : ℕ → List Cut → Type 0
  CutsIn k [] = Unit {0}
  CutsIn k (c ∷ cs) = (cut_block f k ≡ c) × CutsIn (suc k) cs

  -- the closed layers, and what stands behind them
  layers : (ls : List (List VolumeRadial)) (cs : List Cut) (k at : ℕ) (g : List ℕ) (before ss : List Stretch) → CutsIn k cs → LayersOk (task_block f) k (length before) cs ls
      → At f at (run (run bytes_of_radial) ls ++ g) → NoneFrom k before
      → ((more : List Stretch) → length more ≡ length before + radials_in ls → NoneFrom (k + length ls) more → At f (ends_at at ls) g → AllInPlace f more ss)
      → AllInPlace f before (layers_stretches k at ls ++ ss)
  unfolding run
  layers [] cs k at g before ss ci ok a nf next = next before (omega arith) (λ j h. nf j (omega arith)) a
  layers (l ∷ ls) [] k at g before ss ci ok a nf next = absurd ok
  layers (l ∷ ls) (c ∷ cs) k at g before ss ci ok a nf next =
      let later = layers_stretches (suc k) (end_of at l) ls ++ ss in
      let own = subst (λ (n : ℕ). LayerOk (task_block f) (cut_block f k) k (length before) n l) (sym (nf k (omega arith))) (subst (λ (x : Cut). LayerOk (task_block f) x k (length before) 0 l) (sym ci.0) ok.0) in
      subst (AllInPlace f before) (sym (append_assoc (layer_stretches k at l) (layers_stretches (suc k) (end_of at l) ls) ss))
      (layer l k at (run (run bytes_of_radial) ls ++ g) before later (each-closed (task_block f) (cut_block f k) k (length before) (of_cut k before) l own)
      (subst (At f at) (append_assoc (run bytes_of_radial l) (run (run bytes_of_radial) ls) g) a) (λ j h. nf j (omega arith))
      (λ more n h i. layers ls cs (suc k) (end_of at l) g more ss ci.1 (subst (λ (x : ℕ). LayersOk (task_block f) (suc k) x cs ls) (sym n) ok.1) i h
      (λ m n' h' i'. next m (omega arith) (λ j q. h' j (omega arith)) i')))

  cuts-in : (cs : List Cut) (k at : ℕ) (g : List ℕ) → 1 ≤ k → at ≡ cut_place k → CutsOk cs → At f at (run cut_bytes cs ++ g) → CutsIn k cs × At f (at + 256 * length cs) g
  unfolding run cut_at
  cuts-in [] k at g o e ok a = (tt, subst (λ (n : ℕ). At f n g) (omega arith) a)
  cuts-in (c ∷ cs) k at g o e ok a =
      let x = read-there cut-trip.coded f at c (run cut_bytes cs ++ g) ok.0 (subst (At f at) (append_assoc (cut_bytes c) (run cut_bytes cs) g) a) in
      let y = cuts-in cs (suc k) (at + 256) g (omega arith) (omega arith) ok.2 x.1 in
      ((ap (cut_at f) (sym e) ∙ x.0, y.0), subst (λ (n : ℕ). At f n g) (omega arith) y.1)

  cuts-split : (cs ds : List Cut) (k : ℕ) → CutsIn k (cs ++ ds) → CutsIn k cs × CutsIn (k + length cs) ds
  cuts-split [] ds k ci = (tt, subst (λ (n : ℕ). CutsIn n ds) (omega arith) ci)
  cuts-split (c ∷ cs) ds k ci = let x = cuts-split cs ds (suc k) ci.1 in ((ci.0, x.0), subst (λ (n : ℕ). CutsIn n ds) (omega arith) x.1)

  -- the blocks before the radials, as they stand in the file
  pub record Front (v : Volume) (rest : List ℕ) : Type 0 where
    pub task : task_block f ≡ v.task
    pub cuts : CutsIn 1 v.cuts
    pub radials : At f (first_place v) (run (run bytes_of_radial) v.layers ++ rest)

  pub front : (v : Volume) (rest : List ℕ) → Headed v → bytes_of_volume v ++ rest ≡ f → Front v rest
  unfolding task_at
  front v rest h e =
      let g4 = run (run bytes_of_radial) v.layers ++ rest in
      let g3 = run cut_bytes v.cuts ++ g4 in
      let g2 = task_bytes v.task ++ g3 in
      let g1 = site_bytes v.site ++ g2 in
      let all : bytes_of_volume v ++ rest ≡ generic_bytes v.generic ++ g1 = simp append_assoc in
      let x0 = read-there generic-trip.coded f 0 v.generic g1 h.generic.0 (record { within = omega arith; rest = sym e ∙ all }) in
      let x1 = read-there site-trip.coded f 32 v.site g2 h.site.0 x0.1 in
      let x2 = read-there task-trip.coded f 160 v.task g3 h.task.0 x1.1 in
      let y = cuts-in v.cuts 1 416 g4 (omega arith) refl h.cuts x2.1 in
      record { task = x2.0; cuts = y.0; radials = y.1 }

  of-volume : (v : Volume) (rest : List ℕ) → IsVolume v → bytes_of_volume v ++ rest ≡ f → AllInPlace f [] (volume_stretches v)
  of-volume v rest ok e =
      let x = front v rest ok.headed e in
      subst (AllInPlace f []) (append-nil (volume_stretches v))
      (layers v.layers v.cuts 1 (first_place v) rest [] [] x.cuts (subst (λ (t : Task). LayersOk t 1 0 v.cuts v.layers) (sym x.task) ok.layers) x.radials (λ j h. refl)
      (λ more n h i. tt))

  of-begun : (b : Begun) (rest : List ℕ) → BegunOk b → bytes_of_volume (volume_of b) ++ rest ≡ f → AllInPlace f [] (volume_stretches (volume_of b))
  of-begun b rest ok e =
      let x = front (volume_of b) rest ok.headed e in
      let at = first_place (volume_of b) in
      let k = 1 + length b.closed in
      let c = cuts-split b.early (b.cut ∷ b.later) 1 x.cuts in
      let n = same_number b.task 1 0 b.early b.closed ok.closed in
      let number : 1 + length b.early ≡ k = omega arith in
      let own : cut_block f k ≡ b.cut = ap (cut_block f) (sym number) ∙ c.1.0 in
      let a = subst (At f at) (ap (λ (y : List ℕ). y ++ rest) (run_end (run bytes_of_radial) b.closed b.now) ∙ append_assoc (run (run bytes_of_radial) b.closed) (run bytes_of_radial b.now) rest) x.radials in
      subst (AllInPlace f []) (sym (stretches-end 1 at b.closed b.now))
      (layers b.closed b.early 1 at (run bytes_of_radial b.now ++ rest) [] (layer_stretches k (ends_at at b.closed) b.now) c.0
      (subst (λ (t : Task). LayersOk t 1 0 b.early b.closed) (sym x.task) ok.closed) a (λ j h. refl)
      (λ more m h i. subst (AllInPlace f more) (append-nil (layer_stretches k (ends_at at b.closed) b.now))
      (layer b.now k (ends_at at b.closed) rest more [] (each-unclosed (task_block f) (cut_block f k) k (length more) (of_cut k more) b.now (unclosed b ok k more x.task own (omega arith) (omega arith) (h k (omega arith)))) i (λ j q. h j (omega arith)) (λ more m h i. tt))))
    where
      unclosed : (b : Begun) → BegunOk b → (k : ℕ) (more : List Stretch) → task_block f ≡ b.task → cut_block f k ≡ b.cut → suc (length b.closed) ≡ k → radials_in b.closed ≡ length more → of_cut k more ≡ 0
          → UnclosedOk (task_block f) (cut_block f k) k (length more) (of_cut k more) b.now
      unclosed b ok k more t c n m z = rw (t, c, z) (subst (λ (i : ℕ). UnclosedOk b.task b.cut k i 0 b.now) m (subst (λ (i : ℕ). UnclosedOk b.task b.cut i (radials_in b.closed) 0 b.now) n ok.now))

  -- every whole radial of a file is in its own place
  pub in_place : Bytes f → AllInPlace f [] (plain_stretches f)
  in_place bs = go (accepts f bs)
    where
      by : (a : Accepted) (rest : List ℕ) → AcceptedOk a → bytes_of_accepted a ++ rest ≡ f → AllInPlace f [] (accepted_stretches a)
      by nothing rest ok e = tt
      by (generic g) rest ok e = tt
      by (site g s) rest ok e = tt
      by (task g s t cs) rest ok e = tt
      by (radials b) rest ok e = of-begun b rest ok e
      by (radial b r) rest ok e = of-begun b (bytes_of_radial r ++ rest) ok.0 (sym (append_assoc (bytes_of_volume (volume_of b)) (bytes_of_radial r) rest) ∙ e)
      by (moment b r m) rest ok e = of-begun b ((bytes_of_radial r ++ moment_bytes m) ++ rest) ok.0 (apart-end (bytes_of_volume (volume_of b)) (bytes_of_radial r) (moment_bytes m) rest ∙ e)
      by (volume v) rest ok e = of-volume v rest ok e

      go : Accepts f → AllInPlace f [] (plain_stretches f)
      go x = subst (AllInPlace f []) (sym x.told.radials) (by x.accepted x.rest x.is x.bytes)

-- A volume's beginning grows by a block: what is accepted with it is a beginning too, and ends with its bytes. Assumes nothing.
use Prim.Native.Nat.{ℕ, suc, ◌+◌, ◌≤◌}
use native.Mathlib.Decide.{dec_le}
use native.Mathlib.Omega.{arith}
use mathlib.Core.Logic.{dite}
use mathlib.Core.Path.{◌≡◌, refl, sym, ap, subst, subst⁻¹, ◌∙◌}
use mathlib.Core.Bool.{Bool, true, false}
use mathlib.Core.List.{List, [], ◌∷◌, ◌++◌, append_assoc, append-nil, reverse_aux}
use lib.Dec.{eqb}
use lib.ListN.{length, length-append}
use borrow.Author.Tests.{eqb-true, eqb-false}
use Rattle.le.proofs.Laws.{run_end}
use Rattle.le.specs.Le.{run}
use Rattle.rules.specs.Check.{Hold}
use Rattle.rules.specs.States.{closing}
use Rattle.rules.proofs.Numbers.{some-cut}
use Rattle.cut.specs.declared.Cut.{Cut}
use Rattle.generic.specs.declared.Generic.{Generic}
use Rattle.moment.specs.declared.Moment.{Moment}
use Rattle.radial.specs.declared.Radial.{Radial}
use Rattle.site.specs.declared.Site.{Site}
use Rattle.task.specs.declared.Task.{Task}
use Rattle.cut.specs.Cut.{cut_bytes, cut_rules, CutFits}
use Rattle.generic.specs.Generic.{generic_bytes}
use Rattle.moment.specs.Moment.{moment_bytes, moment_rules, MomentFits}
use Rattle.radial.specs.Radial.{radial_bytes, radial_rules, RadialFits}
use Rattle.radial.proofs.Header.{header}
use Rattle.site.specs.Site.{site_bytes}
use Rattle.task.specs.Task.{task_bytes}
use Rattle.volume.specs.Volume.{VolumeMoment, VolumeRadial, Volume, Headed, GenericOk, SiteOk, TaskOk, CutsOk, MomentsOk, RadialOk, Closes, LayerOk, LayersOk, judged, bytes_of_moment, bytes_of_radial, bytes_of_volume}
use Rattle.volume.specs.Accepted.{Begun, Accepted, nothing, generic, site, task, radials, radial, moment, volume, volume_of, bytes_of_accepted, radials_in, due_radial, due_moment, UnclosedOk, BegunOk, RadialBegun, AcceptedOk}

-- ---- one more at the end

cuts-end : (cs : List Cut) (c : Cut) → CutsOk cs → CutFits c → Hold (cut_rules c) → CutsOk (cs ++ (c ∷ []))
cuts-end [] c ok fits rules = (fits, rules, tt)
cuts-end (d ∷ ds) c ok fits rules = (ok.0, ok.1, cuts-end ds c ok.2 fits rules)

moments-end : (c : Cut) (r : Radial) (ms before : List VolumeMoment) (p : VolumeMoment) → MomentsOk c r before ms → MomentFits p.header → Hold (moment_rules p.header (judged c r (reverse_aux ms before)))
    → length p.bytes ≡ p.header.length → MomentsOk c r before (ms ++ (p ∷ []))
moments-end c r [] before p ok fits rules long = (fits, rules, long, tt)
moments-end c r (m ∷ ms) before p ok fits rules long = (ok.0, ok.1, ok.2, moments-end c r ms (m ∷ before) p ok.3 fits rules long)

module _ (t : Task) (c : Cut) (k : ℕ) where
  pub moved : (before in_cut before' in_cut' : ℕ) (b : VolumeRadial) → before ≡ before' → in_cut ≡ in_cut' → RadialOk t c k before in_cut b → RadialOk t c k before' in_cut' b
  moved before in_cut before' in_cut' b e d ok = subst (λ (i : ℕ). RadialOk t c k before' i b) d (subst (λ (i : ℕ). RadialOk t c k i in_cut b) e ok)

  unclosed-end : (l : List VolumeRadial) (before in_cut : ℕ) (b : VolumeRadial) → UnclosedOk t c k before in_cut l → RadialOk t c k (before + length l) (in_cut + length l) b → (Closes t k b → ⊥) → UnclosedOk t c k before in_cut (l ++ (b ∷ []))
  unclosed-end [] before in_cut b ok r n = (moved (before + 0) (in_cut + 0) before in_cut b (omega arith) (omega arith) r, n, tt)
  unclosed-end (m ∷ ms) before in_cut b ok r n =
      (ok.0, ok.1, unclosed-end ms (suc before) (suc in_cut) b ok.2 (moved (before + suc (length ms)) (in_cut + suc (length ms)) (suc before + length ms) (suc in_cut + length ms) b (omega arith) (omega arith) r) n)

  layer-more : (before in_cut : ℕ) (b : VolumeRadial) (l : List VolumeRadial) → RadialOk t c k before in_cut b → (Closes t k b → ⊥) → LayerOk t c k (suc before) (suc in_cut) l → LayerOk t c k before in_cut (b ∷ l)
  layer-more before in_cut b [] o n ok = absurd ok
  layer-more before in_cut b (m ∷ ms) o n ok = (o, n, ok)

  pub layer-end : (l : List VolumeRadial) (before in_cut : ℕ) (b : VolumeRadial) → UnclosedOk t c k before in_cut l → RadialOk t c k (before + length l) (in_cut + length l) b → Closes t k b → LayerOk t c k before in_cut (l ++ (b ∷ []))
  layer-end [] before in_cut b ok r n = (moved (before + 0) (in_cut + 0) before in_cut b (omega arith) (omega arith) r, n)
  layer-end (m ∷ ms) before in_cut b ok r n =
      layer-more before in_cut m (ms ++ (b ∷ [])) ok.0 ok.1
      (layer-end ms (suc before) (suc in_cut) b ok.2 (moved (before + suc (length ms)) (in_cut + suc (length ms)) (suc before + length ms) (suc in_cut + length ms) b (omega arith) (omega arith) r) n)

pub layers-end : (t : Task) (cs : List Cut) (ls : List (List VolumeRadial)) (c : Cut) (l : List VolumeRadial) (k before : ℕ) → LayersOk t k before cs ls → LayerOk t c (k + length ls) (before + radials_in ls) 0 l
    → LayersOk t k before (cs ++ (c ∷ [])) (ls ++ (l ∷ []))
layers-end t [] [] c l k before ok o =
    let y : k + 0 ≡ k = omega arith in
    let z : before + 0 ≡ before = omega arith in
    (subst (λ (i : ℕ). LayerOk t c i before 0 l) y (subst (λ (i : ℕ). LayerOk t c (k + 0) i 0 l) z o), tt)
layers-end t [] (m ∷ ms) c l k before ok o = absurd ok
layers-end t (d ∷ ds) [] c l k before ok o = absurd ok
layers-end t (d ∷ ds) (m ∷ ms) c l k before ok o =
    let y : k + suc (length ms) ≡ suc k + length ms = omega arith in
    let z : before + (length m + radials_in ms) ≡ before + length m + radials_in ms = omega arith in
    (ok.0, layers-end t ds ms c l (suc k) (before + length m) ok.1 (subst (λ (i : ℕ). LayerOk t c i (before + length m + radials_in ms) 0 l) y (subst (λ (i : ℕ). LayerOk t c (k + suc (length ms)) i 0 l) z o)))

pub headed-as : (v : Volume) (cs : List Cut) (ls : List (List VolumeRadial)) → v.cuts ≡ cs → Headed v → Headed (record { generic = v.generic; site = v.site; task = v.task; cuts = cs; layers = ls })
headed-as v cs ls e h =
    record {
      generic = h.generic;
      site = h.site;
      task = h.task;
      number = ap length (sym e) ∙ h.number;
      cuts = subst CutsOk e h.cuts;
    }

-- ---- a block more

-- data may have no byte, as far as this file knows: what is due behind it is something else
abbrev pub tag : Accepted → ℕ
tag nothing = 0
tag (generic g) = 0
tag (site g s) = 0
tag (task g s t cs) = 0
tag (radials b) = 0
tag (radial b r) = 0
tag (moment b r m) = 1
tag (volume v) = 0

pub record Next (a : Accepted) (x : List ℕ) : Type 0 where
  pub accepted : Accepted
  pub is : AcceptedOk accepted
  pub bytes : bytes_of_accepted accepted ≡ bytes_of_accepted a ++ x
  pub other : tag accepted + tag a ≤ 1

pub next-generic : (g : Generic) → GenericOk g → Next nothing (generic_bytes g)
next-generic g ok = record { accepted = generic g; is = ok; bytes = refl; other = omega arith }

pub next-site : (g : Generic) (s : Site) → GenericOk g → SiteOk s → Next (generic g) (site_bytes s)
next-site g s go so = record { accepted = site g s; is = (go, so); bytes = refl; other = omega arith }

pub next-task : (g : Generic) (s : Site) (t : Task) → GenericOk g → SiteOk s → TaskOk t → Next (site g s) (task_bytes t)
unfolding run
next-task g s t go so to =
    record { accepted = task g s t []; is = (go, so, to, some-cut _ _ to.1.1.1.1.0, tt); bytes = append-nil _ ∙ append-nil _; other = omega arith }

-- the last cut: the first layer is begun
all-cuts : (g : Generic) (s : Site) (t : Task) (cs : List Cut) (x : List ℕ) → GenericOk g → SiteOk s → TaskOk t → (ds : List Cut) → length ds ≡ t.cut_number → CutsOk ds
    → bytes_of_accepted (task g s t ds) ≡ bytes_of_accepted (task g s t cs) ++ x → Next (task g s t cs) x
unfolding run
all-cuts g s t cs x go so to [] n ok e = let o = some-cut _ _ to.1.1.1.1.0 in absurd (omega arith)
all-cuts g s t cs x go so to (d ∷ ds) n ok e =
    record {
      accepted = radials (record { generic = g; site = s; task = t; early = []; closed = []; cut = d; now = []; later = ds });
      is = record { headed = record { generic = go; site = so; task = to; number = n; cuts = ok }; closed = tt; now = tt };
      bytes = e;
      other = omega arith;
    }

pub next-cut : (g : Generic) (s : Site) (t : Task) (cs : List Cut) (c : Cut) → AcceptedOk (task g s t cs) → CutFits c → Hold (cut_rules c) → Next (task g s t cs) (cut_bytes c)
unfolding run
next-cut g s t cs c ok fits rules =
    let ds = cs ++ (c ∷ []) in
    let few = ok.3 in
    let l : length ds ≡ length cs + 1 = length-append cs (c ∷ []) in
    let o = cuts-end cs c ok.4 fits rules in
    let e : bytes_of_accepted (task g s t ds) ≡ bytes_of_accepted (task g s t cs) ++ cut_bytes c =
    ap (λ (r : List ℕ). (((generic_bytes g ++ site_bytes s) ++ task_bytes t) ++ r) ++ []) (run_end cut_bytes cs c) ∙ regroup ((generic_bytes g ++ site_bytes s) ++ task_bytes t) (run cut_bytes cs) (cut_bytes c) in
    dite (dec_le t.cut_number (length ds))
    (λ h. all-cuts g s t cs (cut_bytes c) ok.0 ok.1 ok.2 ds (omega arith) o e)
    (λ h. record { accepted = task g s t ds; is = (ok.0, ok.1, ok.2, omega arith, o); bytes = e; other = omega arith })
  where
    regroup : (a b c : List ℕ) → (a ++ (b ++ c)) ++ [] ≡ ((a ++ b) ++ []) ++ c
    regroup a b c = simp (append_assoc, append-nil)

pub next-radial : (b : Begun) (r : Radial) → BegunOk b → RadialFits r → Hold (radial_rules r (due_radial b)) → Next (radials b) (radial_bytes r)
unfolding run
next-radial b r ok fits rules =
    let h = (header r _ rules).some in
    record {
      accepted = radial b (record { header = r; moments = [] });
      is = (ok, record { fits = fits; rules = rules; fewer = omega arith; moments = tt });
      bytes = ap (λ (l : List ℕ). bytes_of_volume (volume_of b) ++ l) (append-nil (radial_bytes r));
      other = omega arith;
    }

pub next-moment : (b : Begun) (r : VolumeRadial) (m : Moment) → BegunOk b → RadialBegun b r → MomentFits m → Hold (moment_rules m (due_moment b r)) → Next (radial b r) (moment_bytes m)
next-moment b r m ok begun fits rules = record { accepted = moment b r m; is = (ok, begun, fits, rules); bytes = refl; other = omega arith }

-- ---- data: a moment more, and the radial may be whole, its layer closed, the volume over

module _ (b : Begun) (r : VolumeRadial) (m : Moment) (x : List ℕ) (ok : BegunOk b) (begun : RadialBegun b r) (fits : MomentFits m) (rules : Hold (moment_rules m (due_moment b r))) (long : length x ≡ m.length) where
  t : Task
  t = b.task

  k : ℕ
  k = suc (length b.closed)

  grown : VolumeRadial
  grown = record { header = r.header; moments = r.moments ++ (record { header = m; bytes = x } ∷ []) }

  grown-moments : MomentsOk b.cut r.header [] grown.moments
  unfolding grown
  grown-moments = moments-end b.cut r.header r.moments [] (record { header = m; bytes = x }) begun.moments fits rules long

  grown-bytes : bytes_of_volume (volume_of b) ++ bytes_of_radial grown ≡ bytes_of_accepted (moment b r m) ++ x
  unfolding grown
  grown-bytes =
      ap (λ (l : List ℕ). bytes_of_volume (volume_of b) ++ (radial_bytes r.header ++ l)) (run_end bytes_of_moment r.moments (record { header = m; bytes = x }))
      ∙ regroup (bytes_of_volume (volume_of b)) (radial_bytes r.header) (run bytes_of_moment r.moments) (moment_bytes m) x
    where
      regroup : (a b c d e : List ℕ) → a ++ (b ++ (c ++ (d ++ e))) ≡ ((a ++ (b ++ c)) ++ d) ++ e
      regroup a b c d e = simp append_assoc

  -- the radial is whole
  layer : List VolumeRadial
  layer = b.now ++ (grown ∷ [])

  more : Begun
  more = record { generic = b.generic; site = b.site; task = b.task; early = b.early; closed = b.closed; cut = b.cut; now = layer; later = b.later }

  more_bytes : bytes_of_volume (volume_of more) ≡ bytes_of_accepted (moment b r m) ++ x
  unfolding more layer
  more_bytes =
      let y = (generic_bytes b.generic ++ site_bytes b.site ++ task_bytes b.task) ++ run cut_bytes (b.early ++ (b.cut ∷ b.later)) in
      let c = run (run bytes_of_radial) b.closed in
      ap (λ (l : List ℕ). y ++ l) (run_end (run bytes_of_radial) b.closed (b.now ++ (grown ∷ [])) ∙ ap (λ (l : List ℕ). c ++ l) (run_end bytes_of_radial b.now grown))
      ∙ regroup y c (run bytes_of_radial b.now) (bytes_of_radial grown)
      ∙ ap (λ (l : List ℕ). (y ++ l) ++ bytes_of_radial grown) (sym (run_end (run bytes_of_radial) b.closed b.now))
      ∙ grown-bytes
    where
      regroup : (a b c d : List ℕ) → a ++ (b ++ (c ++ d)) ≡ (a ++ (b ++ c)) ++ d
      regroup a b c d = simp append_assoc

  module _ (all : r.header.moment_number ≤ suc (length r.moments)) where
    grown-ok : RadialOk t b.cut k (radials_in b.closed + length b.now) (0 + length b.now) grown
    unfolding t k grown
    grown-ok =
        let few = begun.fewer in
        let l = length-append r.moments (record { header = m; bytes = x } ∷ []) in
        let z : length b.now ≡ 0 + length b.now = omega arith in
        subst (λ (i : ℕ). RadialOk b.task b.cut (suc (length b.closed)) (radials_in b.closed + length b.now) i grown) z
        (record { fits = begun.fits; rules = begun.rules; count = omega arith; moments = grown-moments })

    layers-ok : Closes t k grown → LayersOk t 1 0 (b.early ++ (b.cut ∷ [])) (b.closed ++ (layer ∷ []))
    unfolding t k layer
    layers-ok closes =
        let y : k ≡ 1 + length b.closed = omega arith in
        let z : radials_in b.closed ≡ 0 + radials_in b.closed = omega arith in
        layers-end t b.early b.closed b.cut layer 1 0 ok.closed
        (subst (λ (i : ℕ). LayerOk t b.cut i (0 + radials_in b.closed) 0 layer) y (subst (λ (i : ℕ). LayerOk t b.cut k i 0 layer) z
        (layer-end t b.cut k b.now (radials_in b.closed) 0 grown ok.now grown-ok closes)))

    closed-by : Closes t k grown → (later : List Cut) → b.later ≡ later → Next (moment b r m) x
    unfolding run t k more
    closed-by closes [] e =
        record {
          accepted = volume (volume_of more);
          is =
              record {
                headed = headed-as (volume_of b) _ _ refl ok.headed;
                layers = subst⁻¹ (λ (l : List Cut). LayersOk b.task 1 0 (b.early ++ (b.cut ∷ l)) (b.closed ++ (layer ∷ []))) e (layers-ok closes);
              };
          bytes = more_bytes;
          other = omega arith;
        }
    closed-by closes (d ∷ ds) e =
        let cs : b.early ++ (b.cut ∷ b.later) ≡ (b.early ++ (b.cut ∷ [])) ++ (d ∷ ds) = ap (λ (l : List Cut). b.early ++ (b.cut ∷ l)) e ∙ sym (append_assoc b.early (b.cut ∷ []) (d ∷ ds)) in
        record {
          accepted =
              radials (record {
                generic = b.generic;
                site = b.site;
                task = b.task;
                early = b.early ++ (b.cut ∷ []);
                closed = b.closed ++ (layer ∷ []);
                cut = d;
                now = [];
                later = ds;
              });
          is = record { headed = headed-as (volume_of b) _ _ cs ok.headed; closed = layers-ok closes; now = tt };
          bytes =
              ap (λ (l : List ℕ). ((generic_bytes b.generic ++ site_bytes b.site ++ task_bytes b.task) ++ run cut_bytes ((b.early ++ (b.cut ∷ [])) ++ (d ∷ ds))) ++ l) (run_end (run bytes_of_radial) (b.closed ++ (layer ∷ [])) [] ∙ append-nil _)
              ∙ ap (λ (l : List Cut). ((generic_bytes b.generic ++ site_bytes b.site ++ task_bytes b.task) ++ run cut_bytes l) ++ run (run bytes_of_radial) (b.closed ++ (layer ∷ []))) (sym cs)
              ∙ more_bytes;
          other = omega arith;
        }

    whole : (closes : Bool) → eqb r.header.state (closing t.scan_type t.cut_number k) ≡ closes → Next (moment b r m) x
    unfolding t k grown more layer
    whole true e = closed-by (eqb-true r.header.state (closing t.scan_type t.cut_number k) e) b.later refl
    whole false e =
        record {
          accepted = radials more;
          is =
              record {
                headed = headed-as (volume_of b) _ _ refl ok.headed;
                closed = ok.closed;
                now = unclosed-end t b.cut k b.now (radials_in b.closed) 0 grown ok.now grown-ok (eqb-false r.header.state (closing t.scan_type t.cut_number k) e);
              };
          bytes = more_bytes;
          other = omega arith;
        }

  pub next-data : Next (moment b r m) x
  unfolding grown
  next-data =
      let few = begun.fewer in
      let l = length-append r.moments (record { header = m; bytes = x } ∷ []) in
      dite (dec_le r.header.moment_number (suc (length r.moments)))
      (λ h. whole h (eqb r.header.state (closing t.scan_type t.cut_number k)) refl)
      (λ h. record {
        accepted = radial b grown;
        is = (ok, record { fits = begun.fits; rules = begun.rules; fewer = omega arith; moments = grown-moments });
        bytes = grown-bytes;
        other = omega arith;
      })

-- Some of document 01's "Numbers to try", told by the structure: files that are open, and refused. Assumes nothing.
use Prim.Native.Nat.{ℕ, ◌-◌, ◌<◌}
use native.Mathlib.Omega.{arith}
use mathlib.Core.Path.{◌≡◌, refl, ap, subst, ◌∙◌}
use mathlib.Core.List.{List, [], ◌∷◌, ◌++◌}
use lib.ListN.{length, take}
use Rattle.le.specs.Le.{le, bytes, part, run}
use Rattle.rules.specs.Check.{First, here, behind, broken}
use Rattle.rules.specs.Ranges.{among, not_below_zero}
use Rattle.rules.specs.States.{most_cuts, cut_number_clauses}
use Rattle.cut.specs.Cut.{cut_bytes}
use Rattle.generic.specs.Generic.{generic_bytes}
use Rattle.moment.specs.Moment.{moment_bytes}
use Rattle.radial.specs.Radial.{radial_bytes}
use Rattle.site.specs.Site.{site_bytes}
use Rattle.task.specs.Task.{task_bytes, task_of, task_at, task_rules}
use Rattle.reading.specs.Reading.{plain_told, plain_stop, plain_stretches}
use Rattle.volume.specs.Volume.{bytes_of_volume}
use Rattle.volume.specs.Accepted.{Accepted, nothing, site, moment, volume, AcceptedOk, bytes_of_accepted, missing, follow, broken}
use Rattle.volume.specs.Meaning.{Told}
use Rattle.volume.proofs.Tells.{tells}
use Rattle.volume.proofs.Small.{small-generic, small-site, small-task, small_cut, small-radial, small-moment, small-whole, small, small_is, small-length}

-- fewer bytes than a generic header, whatever they are (a wrong magic too): open, by those that are missing
pub short-told : (f : List ℕ) → length f < 32 → plain_told f ≡ 1 ∷ (32 - length f) ∷ []
short-told f h = (tells nothing f _ tt (missing nothing f h)).verdict

-- bytes behind the small volume: refused 25 where it ended
pub behind-told : (x : ℕ) (xs : List ℕ) → plain_told (bytes_of_volume small ++ (x ∷ xs)) ≡ 2 ∷ 25 ∷ 872 ∷ []
behind-told x xs = (tells (volume small) (x ∷ xs) _ small_is (follow small x xs)).verdict ∙ ap (λ (n : ℕ). 2 ∷ 25 ∷ n ∷ []) small-length

-- the small volume up to the data of its second radial
unfoldable last-due : Accepted
last-due =
    moment
    (record {
      generic = small-generic;
      site = small-site;
      task = small-task 1;
      early = [];
      closed = [];
      cut = small_cut 2;
      now = small-whole 3 1 1 1 2 ∷ [];
      later = [];
    })
    (record { header = small-radial 4 2 2 1; moments = [] })
    (small-moment 2)

last-is : AcceptedOk last-due
unfolding last-due small small-task small-radial small-whole
last-is =
    let h = small_is.headed in
    let l = small_is.layers.0 in
    let o = l.2.0 in (
      record {
        headed = record { generic = h.generic; site = h.site; task = h.task; number = h.number; cuts = h.cuts };
        closed = tt;
        now = (l.0, l.1, tt);
      },
      record { fits = o.fits; rules = o.rules; fewer = omega arith; moments = tt },
      o.moments.0,
      o.moments.1,
    )

-- and three of its four bytes: the small volume's first 871
first-bytes : bytes_of_accepted last-due ++ (0 ∷ 1 ∷ 66 ∷ []) ≡ take 871 (bytes_of_volume small)
unfolding last-due small small-generic small-site small-task small_cut small-whole small-radial small-moment generic_bytes site_bytes task_bytes cut_bytes radial_bytes moment_bytes run bytes part
first-bytes = refl

last-length : length (bytes_of_accepted last-due) ≡ 868
unfolding last-due small-generic small-site small-task small_cut small-whole small-radial small-moment generic_bytes site_bytes task_bytes cut_bytes radial_bytes moment_bytes run bytes part
last-length = refl

first-told : Told (take 871 (bytes_of_volume small)) last-due (1 ∷ 1 ∷ [])
unfolding last-due small-moment
first-told = subst (λ (f : List ℕ). Told f last-due (1 ∷ 1 ∷ [])) first-bytes (tells last-due (0 ∷ 1 ∷ 66 ∷ []) (1 ∷ 1 ∷ []) last-is (missing last-due (0 ∷ 1 ∷ 66 ∷ []) (omega arith)))

-- they are open, 1 missing, 868 read, 1 whole radial
pub first-open : plain_told (take 871 (bytes_of_volume small)) ≡ 1 ∷ 1 ∷ []
first-open = first-told.verdict

pub first_read : (plain_stop (take 871 (bytes_of_volume small))).at ≡ 868
first_read = first-told.read ∙ last-length

pub first-radials : plain_stretches (take 871 (bytes_of_volume small)) ≡ record { start = 672; end = 772; cut = 1 } ∷ []
unfolding last-due small-whole small-radial small-moment radial_bytes moment_bytes run bytes part
first-radials = first-told.radials

-- 257 cuts: refused 8 at 336
first-broken : First (task_rules (task_at (task_bytes (small-task 257)) 0)) (record { number = 8; which = 1; place = 176; size = 4 })
unfolding small-task task_at task_of task_bytes run le bytes part among not_below_zero cut_number_clauses most_cuts
first-broken = behind _ _ refl (behind _ _ refl (behind _ _ refl (here _ _ 1 (broken _ _ refl))))

pub cuts-refused : plain_told (generic_bytes small-generic ++ site_bytes small-site ++ task_bytes (small-task 257)) ≡ 2 ∷ 8 ∷ 336 ∷ []
unfolding small small-generic small-site small-task generic_bytes site_bytes task_bytes run bytes part
cuts-refused =
    (tells (site small-generic small-site) (task_bytes (small-task 257)) (2 ∷ 8 ∷ 336 ∷ []) (small_is.headed.generic, small_is.headed.site)
    (broken (site small-generic small-site) (task_bytes (small-task 257)) _ (omega arith) first-broken)
    ).verdict

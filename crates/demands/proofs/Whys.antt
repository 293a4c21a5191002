-- Say why: the page of specs/Whys, by citing; the fields and the clauses are computed. Assumes nothing.
use mathlib.Core.List.{List, [], ◌∷◌, map}
use mathlib.Core.Path.{◌≡◌, refl, sym, ap, ◌∙◌}
use native.Mathlib.Omega.{arith}
use Prim.Native.Nat.{ℕ, suc}
use Rattle.rules.specs.Check.{Rule, verdict}
use Rattle.rules.specs.Masks.{bin_length_clauses, bit, type_clauses}
use Rattle.rules.specs.Ranges.{among, count_clauses, within}
use Rattle.rules.specs.States.{cut_number_clauses, most_cuts}
use Rattle.rules.specs.Tiling.{length_clauses, moment_number_clauses, tiles}
use Rattle.rules.proofs.Judged.{Told, keeps, fails, told, on, off}
use Rattle.rules.proofs.Numbers.{bin-by-size, cut-by-scan}
use Rattle.cut.specs.Cut.{cut_of}
use Rattle.generic.specs.Generic.{generic_of}
use Rattle.moment.specs.declared.MomentDue.{MomentDue}
use Rattle.moment.specs.Moment.{moment_of}
use Rattle.radial.specs.declared.RadialDue.{RadialDue}
use Rattle.radial.specs.Radial.{radial_of}
use Rattle.site.specs.Site.{site_of}
use Rattle.task.specs.Task.{task_of}
use Rattle.citing.proofs.Alone.{because}
use Rattle.citing.proofs.Grounds.{grounded}
use Rattle.citing.proofs.Stops.{cites-told}
use Rattle.demands.specs.Whys.{as_one, refusal_in, AsBefore, Clauses, Lines, Whys}

lines : (b : List ℕ) (d : RadialDue) (e : MomentDue) → Lines b d e
unfolding generic_of site_of task_of cut_of radial_of moment_of bin_length_clauses type_clauses count_clauses cut_number_clauses length_clauses moment_number_clauses
lines b d e = record { generic = refl; site = refl; task = refl; cut = refl; radial = refl; moment = refl }

clauses : Clauses
unfolding among within bit most_cuts tiles bin_length_clauses type_clauses count_clauses cut_number_clauses length_clauses moment_number_clauses
clauses = record { eight = refl; twelve = refl; thirteen = refl; nineteen = refl; twenty = refl; twenty-three = refl; twenty-four = refl }

-- a rule and its clauses as one are told alike
numbers : (rs : List Rule) → refusal_in (verdict rs) ≡ refusal_in (verdict (map as_one rs))
numbers [] = refl
numbers (r ∷ rs) = go (told r) (numbers rs)
  where
    go : Told r → refusal_in (verdict rs) ≡ refusal_in (verdict (map as_one rs)) → refusal_in (verdict (r ∷ rs)) ≡ refusal_in (verdict (as_one r ∷ map as_one rs))
    go (keeps h e) later = ap refusal_in (on r rs e) ∙ later ∙ sym (ap refusal_in (on (as_one r) (map as_one rs) (rw h)))
    go (fails k h e f) later =
        ap refusal_in (off r rs (suc k) e (omega arith)) ∙ sym (ap refusal_in (off (as_one r) (map as_one rs) 1 (rw h) (omega arith)))

as_before : AsBefore
unfolding count_clauses length_clauses moment_number_clauses type_clauses
as_before =
    record {
      numbers = numbers;
      eight = cut-by-scan;
      twelve = λ most before n. refl;
      nineteen = λ left k. refl;
      twenty = λ mask seen t. refl;
      twenty-three = bin-by-size;
      twenty-four = λ todo left bin n. refl;
    }

pub whys : Whys
whys = record { gates = because; files = grounded; told = cites-told; lines = lines; clauses = clauses; as_before = as_before }

-- Demand 2, by citing the crates that hold each of its parts. Assumes nothing.
use mathlib.Core.Bool.{true, false}
use mathlib.Core.List.{[], ◌∷◌, map}
use mathlib.Core.Path.{◌≡◌, refl}
use Rattle.rules.proofs.Judged.{all_hold, fine-if, first-decides, decided-first}
use Rattle.cut.proofs.Trips as cut
use Rattle.generic.proofs.Trips as generic
use Rattle.moment.proofs.Trips as moment
use Rattle.radial.proofs.Trips as radial
use Rattle.site.proofs.Trips as site
use Rattle.task.proofs.Trips as task
use Rattle.gates.specs.declared.Coding.{Coding}
use Rattle.gates.specs.declared.Gate.TheVariants.{BelowThreshold, RangeFolded, NotScanned, Unknown, Reserved}
use Rattle.gates.specs.Gates.{gate_of}
use Rattle.gates.proofs.Gates.{classes-only, no-measurement, special-told, value-told, class-told, kind-is}
use Rattle.gates.proofs.Exact.{lossless}
use Rattle.gates.proofs.Nearest.{hundredths-near}
use Rattle.reading.proofs.Exactly.{told-exactly}
use Rattle.volume.proofs.Meaning.{plain-means}
use Rattle.volume.proofs.Sense.{sense}
use Rattle.ask.proofs.Counted.{counted}
use Rattle.ask.proofs.Shown.{row-shown}
use Rattle.ask.proofs.Sounding.{sound}
use Rattle.hope.proofs.Meaning.{means}
use Rattle.hope.proofs.Told.{in_place}
use Rattle.index.proofs.Same.{right-only, right-when}
use Rattle.writer.proofs.Again.{same_block}
use Rattle.writer.proofs.Agreeing.{taken-when, keeps}
use Rattle.writer.proofs.Blocks.{same_blocks}
use Rattle.writer.proofs.Copying.{copy_of}
use Rattle.writer.proofs.Refusing.{same_place}
use Rattle.writer.proofs.Runs.{run-back}
use Rattle.demands.proofs.Cuts.{many-cuts-hold}
use Rattle.demands.proofs.Floats.{floats}
use Rattle.demands.proofs.Hopes.{hopes-hold}
use Rattle.demands.proofs.Imports.{imports}
use Rattle.demands.proofs.Mends.{mends}
use Rattle.demands.proofs.Picks.{picks}
use Rattle.demands.proofs.Engine.{by_index}
use Rattle.demands.proofs.States.{state-rule}
use Rattle.demands.proofs.Decoded.{decoded-rows}
use Rattle.demands.proofs.Whys.{whys}
use Rattle.demands.proofs.Wedges.{wedges-hold}
use Rattle.demands.specs.Two.{RefusedExactly, WholeRadials, Codes, Trips, Writing, IndexRight, DemandTwo}

refused-exactly : RefusedExactly
refused-exactly = record { fine = all_hold; holds = fine-if; refused = decided-first; first = λ rules c f. first-decides f; files = told-exactly }

whole-radials : WholeRadials
whole-radials = record { radials = in_place; moments = sound }

names : (c : Coding) → map (gate_of c) (0 ∷ 1 ∷ 2 ∷ 3 ∷ 4 ∷ []) ≡ BelowThreshold ∷ RangeFolded ∷ NotScanned ∷ Unknown ∷ Reserved ∷ []
unfolding gate_of
names c = refl

codes : Codes
codes =
    record {
      types = λ t. (classes-only t, no-measurement t);
      names = names;
      special = special-told;
      value = value-told;
      class = class-told;
      value-kind = λ c code. kind-is c code true;
      class-kind = λ c code. kind-is c code false;
      float = lossless;
      hundredths = hundredths-near;
    }

trips : Trips
trips =
    record {
      generic = generic.there_and_back;
      site = site.there_and_back;
      task = task.there_and_back;
      cut = cut.there_and_back;
      radial = radial.there_and_back;
      moment = moment.there_and_back;
      generic-bytes = generic.back-and-there;
      site-bytes = site.back-and-there;
      task-bytes = task.back-and-there;
      cut-bytes = cut.back-and-there;
      radial-bytes = radial.back-and-there;
      moment-bytes = moment.back-and-there;
    }

writing : Writing
writing =
    record {
      exactly = λ b h w room. taken-when b h w room;
      keeps = λ b h w room. keeps b h w room;
      copies = λ f room h k. copy_of f room h k;
      again = same_block;
      runs = run-back;
      blocks = same_blocks;
      place = same_place;
    }

index-right : IndexRight
index-right = record { only = right-only; when = right-when }

pub demand-two : DemandTwo
demand-two =
    record {
      volumes = record { means = means; plain = plain-means; sense = sense };
      exactly = refused-exactly;
      hopes = hopes-hold;
      states = state-rule;
      cuts = many-cuts-hold;
      floats = floats;
      radials = whole-radials;
      codes = codes;
      rows = row-shown;
      tallies = counted;
      decoded = decoded-rows;
      whys = whys;
      wedges = wedges-hold;
      trips = trips;
      writing = writing;
      imports = imports;
      mends = mends;
      picks = picks;
      by_index = by_index;
      index = index-right;
    }

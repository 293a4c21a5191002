-- Up to 256 cuts (document 02, #106): how far the sequence goes, and the index in its two forms. How many cuts a task of each scan
-- type may have stands in the table of `States`; how far a whole volume goes and how its radials are numbered, in `volume/Sense`.
use Rattle.std.specs.Prelude.{ℕ, ◌+◌, ◌<◌, ◌≤◌, true, false, List, [], ◌∷◌, map, ◌↔◌, ◌≡◌, ltb, length}
use Rattle.le.specs.Le.{Bytes, int}
use Rattle.rules.specs.Check.{rule}
use Rattle.rules.specs.Ranges.{is, counts, most_sequence, count_clauses}
use Rattle.radial.specs.declared.Radial.{Radial}
use Rattle.radial.specs.declared.RadialDue.{RadialDue}
use Rattle.radial.specs.Radial.{radial_rules}
use Rattle.reading.specs.declared.Stretch.{Stretch}
use Rattle.reading.specs.Reading.{told, stretches}
use Rattle.volume.specs.Accepted.{Begun, BegunOk, due_radial}
use Rattle.volume.specs.InPlace.{task_block}
use Rattle.volume.specs.Meaning.{volume_stretches}
use Rattle.volume.specs.Volume.{VolumeRadial, Volume, IsVolume, bytes_of_volume}
use Rattle.index.specs.Answer.{right_for}
use Rattle.index.specs.Forms.{Contents, Fit, old_cuts, is_new, said_by, contents_of}
use Rattle.index.specs.Index.{index_of, old_index_of, new_index_of}
use Rattle.demands.specs.Floats.{numbered}

-- a complete file, and how many cuts its task says
pub record Whole (f : List ℕ) : Type 0 where
  pub bytes : Bytes f
  pub complete : told f ≡ 0 ∷ []

abbrev pub cuts_of : List ℕ → ℕ
cuts_of f = (task_block f).cut_number

-- the index of a complete file
pub record Forms (f : List ℕ) : Type 0 where
  -- up to 50 cuts it is document 01's, byte for byte, and begins with their number; above it is the new form, in which a reader of
  -- the old form alone finds 0 cuts
  pub old : cuts_of f ≤ 50 → (index_of f ≡ old_index_of f) × (old_cuts (index_of f) ≡ cuts_of f)
  pub new : 50 < cuts_of f → (index_of f ≡ new_index_of f) × (old_cuts (index_of f) ≡ 0)
  -- so the first byte tells the form
  pub by_first : is_new (index_of f) ≡ ltb 50 (cuts_of f)
  -- what was stored stays right; the other form is wrong for the file
  pub stored : cuts_of f ≤ 50 → right_for f (old_index_of f) ≡ true
  pub new-wrong : cuts_of f ≤ 50 → right_for f (new_index_of f) ≡ false
  pub old-wrong : 50 < cuts_of f → right_for f (old_index_of f) ≡ false
  -- each number fits its bytes, and so all of them are read back from the bytes of the index alone, whichever form it has
  pub fits : Fit (cuts_of f) (stretches f)
  pub says : said_by (index_of f) ≡ contents_of f

-- what is to be said of a volume, by its structure: its layers, the radials of each, and where each radial is
abbrev pub contents_of_volume : Volume → Contents
contents_of_volume v =
    record {
      cuts = length v.layers;
      counts = map (λ (l : List VolumeRadial). length l) v.layers;
      places = map (λ (s : Stretch). s.start) (volume_stretches v);
    }

pub record Cuts : Type 0 where
  -- a sequence is one more than the radials before it, and 65,536 at the most; number 12 asks for that and for nothing else
  pub sequence : (before n : ℕ) → (counts most_sequence before n ≡ true) ↔ ((n ≡ before + 1) × (n ≤ 65536))
  pub twelve : (r : Radial) (d : RadialDue) → numbered 12 (radial_rules r d) ≡ rule 8 4 12 (count_clauses most_sequence d.before r.sequence) ∷ []
  -- of a task of 65 cuts or fewer no radial is refused for that limit: wherever one is due, number 12 asks what document 01 asked
  pub as_before : (b : Begun) → BegunOk b → b.task.cut_number ≤ 65 → (n : ℕ)
      → counts most_sequence (due_radial b).before n ≡ is ((due_radial b).before + 1) (int n)
  pub forms : (f : List ℕ) → Whole f → Forms f
  pub volumes : (v : Volume) → IsVolume v → contents_of (bytes_of_volume v) ≡ contents_of_volume v
  -- no index of the one form is one of the other, and files with other contents have other indexes
  pub apart : (f g : List ℕ) → Whole f → Whole g → cuts_of f ≤ 50 → old_index_of f ≡ new_index_of g → ⊥
  pub differ : (f g : List ℕ) → Whole f → Whole g → index_of f ≡ index_of g → contents_of f ≡ contents_of g

-- Only the moments asked for (document 02, #111): what is written, what is answered of it, one mask and then another, and the masks that
-- give a volume back. In which order it is refused, that a refusal leaves the room as it was and that its promise leaves no choice is in
-- `One`, what growth keeps in `Three`.
use Rattle.std.specs.Prelude.{ℕ, List, [], ◌∷◌, map, ◌≡◌}
use Rattle.std.specs.Int.Bits.{bit_and}
use Rattle.le.specs.Le.{Bytes}
use Rattle.moment.specs.declared.Moment.{Moment}
use Rattle.reading.specs.Reading.{nth, stretches}
use Rattle.volume.specs.Volume.{VolumeMoment}
use Rattle.pick.specs.Only.{only_moments}
use Rattle.pick.specs.Pick.{Complete, empty_in}
use Rattle.pick.specs.Picked.{ByQuestions, GivenBack, Picking, Taken, Twice}

-- ---- by hand

-- a line: a mask, the types of a radial's moments in order, and those that are left
pub data Line : Type 0 where
  line : ℕ → List ℕ → List ℕ → Line

-- a moment of type t, whatever else it says
abbrev pub of_type : ℕ → VolumeMoment
of_type t =
    let header : Moment = record { data_type = t; scale = 1; offset = 0; bin_length = 1; flags = 0; length = 0; reserved = [] } in
    record { header = header; bytes = [] }

abbrev pub computed : Line → Line
computed (line mask types left) = line mask types (map (λ (p : VolumeMoment). p.header.data_type) (only_moments mask (map of_type types)))

unfoldable pub table : List Line
table =
    -- one type: the lowest bit is type 1, and the highest type 64
    line 1 (1 ∷ 2 ∷ 3 ∷ []) (1 ∷ [])
    ∷ line 2 (1 ∷ 2 ∷ 3 ∷ []) (2 ∷ [])
    ∷ line 4 (1 ∷ 2 ∷ 3 ∷ []) (3 ∷ [])
    ∷ line 9223372036854775808 (64 ∷ 1 ∷ 63 ∷ []) (64 ∷ [])
    -- two types, which stay in their order
    ∷ line 5 (3 ∷ 2 ∷ 1 ∷ []) (3 ∷ 1 ∷ [])
    ∷ line 9223372036854775809 (1 ∷ 2 ∷ 64 ∷ []) (1 ∷ 64 ∷ [])
    -- none of them, none at all, and all
    ∷ line 8 (1 ∷ 2 ∷ 3 ∷ []) []
    ∷ line 0 (1 ∷ 2 ∷ 64 ∷ []) []
    ∷ line 18446744073709551615 (1 ∷ 2 ∷ 64 ∷ []) (1 ∷ 2 ∷ 64 ∷ [])
    ∷ []

-- a cut's mask, the wanted bits, and what the cut's mask becomes
pub data Masks : Type 0 where
  masks : ℕ → ℕ → ℕ → Masks

abbrev pub cut_down : Masks → Masks
cut_down (masks cut wanted left) = masks cut wanted (bit_and cut wanted)

unfoldable pub mask_table : List Masks
mask_table =
    -- bits that the cut has and that are wanted, and one that it lacks
    masks 7 5 5
    ∷ masks 5 7 5
    ∷ masks 5 2 0
    ∷ masks 9223372036854775809 18446744073709551615 9223372036854775809
    ∷ masks 9223372036854775811 9223372036854775808 9223372036854775808
    ∷ []

-- ---- picking

pub record Picks : Type 0 where
  -- of a complete volume whose radials each have a wanted moment (`pick/Picked`): what is written is that volume with the wanted moments
  -- only, record for record; it is complete; every answer on a wanted type is the original's, every other is 31, and a radial's record is
  -- the original's but for two fields
  pub taken : (wanted : ℕ) (f : List ℕ) → Bytes f → Taken wanted f → Picking wanted f
  -- which radial 60 names, and that every radial has a wanted moment where it names none, by the questions that are asked of the file
  pub asked : (wanted : ℕ) (f : List ℕ) → ByQuestions wanted f
  -- the mask 0 is refused at the first radial
  pub nothing : (f : List ℕ) → empty_in 0 f ≡ nth (stretches f) 1
  -- one mask and then another are their common bits: both steps are taken exactly where these are, and write the same bytes; where these
  -- are refused by 60, so is one of the steps
  pub twice : (m w : ℕ) (f : List ℕ) → Bytes f → Twice m w f
  -- a mask in which every cut's mask lies gives the volume back
  pub back : (f : List ℕ) → Bytes f → Complete f → GivenBack f
  pub worked : map computed table ≡ table
  pub masked : map cut_down mask_table ≡ mask_table

-- Say why (document 02, #104): for a gate's answer the bytes that give it, for a refused file the block, the field and the clause; and the
-- table's clauses, with their fields, as the rule lists have them.
use Rattle.std.specs.Prelude.{ℕ, ◌+◌, ◌*◌, ◌%◌, ◌&&◌, cond, not, List, [], ◌∷◌, map, ◌≡◌, eqb, leb, pos, length}
use Rattle.le.specs.Le.{int, le, short, Bytes}
use Rattle.rules.specs.Check.{Check}
use Rattle.std.specs.Prelude.{Ok, Err}
use Rattle.rules.specs.Check.{Rule, breaks, every, holds, rule, verdict}
use Rattle.rules.specs.Masks.{bin_length_clauses, bit, type_clauses}
use Rattle.rules.specs.Ranges.{among, count_clauses, is, most_radials, most_sequence}
use Rattle.rules.specs.States.{cut_number_clauses, most_cuts}
use Rattle.rules.specs.Tiling.{least_moment, length_clauses, moment_number_clauses, most_length, tiles}
use Rattle.cut.specs.Cut.{cut_of, cut_rules}
use Rattle.generic.specs.Generic.{generic_of, generic_rules}
use Rattle.moment.specs.declared.MomentDue.{MomentDue}
use Rattle.moment.specs.Moment.{moment_of, moment_rules}
use Rattle.radial.specs.declared.RadialDue.{RadialDue}
use Rattle.radial.specs.Radial.{radial_of, radial_rules}
use Rattle.site.specs.Site.{site_of, site_rules}
use Rattle.task.specs.Task.{task_of, task_rules}
use Rattle.citing.specs.Alone.{Because}
use Rattle.citing.specs.Grounds.{CitesTold, Grounded}

-- ---- the fields that have rules

-- a rule of a block with these bytes: its number, how many clauses it has, its field's place and size, and what stands there
pub record Line : Type 0 where
  pub number : ℕ
  pub clauses : ℕ
  pub place : ℕ
  pub size : ℕ
  pub found : ℕ

abbrev pub line : ℕ → ℕ → ℕ → ℕ → ℕ → Line
line n c p s x = record { number = n; clauses = c; place = p; size = s; found = x }

abbrev pub lines_in : List ℕ → List Rule → List Line
lines_in b rs = map (λ (r : Rule). line r.number (length r.clauses) r.place r.size (le r.size b r.place)) rs

-- each block's, with the field of its record that is found there
pub record Lines (b : List ℕ) (d : RadialDue) (e : MomentDue) : Type 0 where
  pub generic : let r = generic_of b in lines_in b (generic_rules r) ≡ line 1 1 0 4 r.magic ∷ line 2 1 8 4 r.generic_type ∷ []
  pub site : let r = site_of b in lines_in b (site_rules r) ≡ line 3 1 40 4 r.latitude ∷ line 4 1 44 4 r.longitude ∷ []
  pub task : let r = task_of b in lines_in b (task_rules r)
      ≡ line 5 1 160 4 r.polarization ∷ line 6 1 164 4 r.scan_type ∷ line 7 1 172 4 r.start_time ∷ line 8 2 176 4 r.cut_number ∷ []
  pub cut : let r = cut_of b in lines_in b (cut_rules r)
      ≡ line 9 1 0 4 r.process_mode ∷ line 9 1 4 4 r.wave_form ∷ line 9 1 16 4 r.unfold_mode
      ∷ line 9 1 44 4 r.log_resolution ∷ line 9 1 48 4 r.doppler_resolution ∷ line 9 1 72 4 r.phase_mode ∷ []
  pub radial : let r = radial_of b in lines_in b (radial_rules r d)
      ≡ line 10 1 0 4 r.state ∷ line 11 1 4 4 r.spot_blank ∷ line 12 2 8 4 r.sequence ∷ line 13 2 12 4 r.radial_number ∷ line 14 1 16 4 r.elevation_number
      ∷ line 15 1 20 4 r.azimuth ∷ line 16 1 24 4 r.elevation ∷ line 17 1 28 4 r.seconds ∷ line 17 1 32 4 r.microseconds
      ∷ line 18 1 36 4 r.length_of_data ∷ line 19 2 40 4 r.moment_number ∷ []
  pub moment : let r = moment_of b in lines_in b (moment_rules r e)
      ≡ line 20 3 0 4 r.data_type ∷ line 21 1 4 4 r.scale ∷ line 22 1 8 4 r.offset ∷ line 23 2 12 2 r.bin_length ∷ line 24 3 16 4 r.length ∷ []

-- ---- the rules of several clauses, worked by hand: which is the first that is broken, from 1, and 0 where none is

-- number 8, by scan type and cut number: 1 not 1..256; 2 not 1 while scan type is 2
abbrev pub eights : List ℕ
eights = map breaks (cut_number_clauses 1 0 ∷ cut_number_clauses 1 1 ∷ cut_number_clauses 1 256 ∷ cut_number_clauses 1 257 ∷ cut_number_clauses 2 0 ∷ cut_number_clauses 2 1 ∷ cut_number_clauses 2 2 ∷ cut_number_clauses 2 256 ∷ cut_number_clauses 2 257 ∷ cut_number_clauses 5 2 ∷ [])

-- numbers 12 and 13, by what was counted before and the number: 1 not one more; 2 past 65,536, or 1000
abbrev pub twelves : List ℕ
twelves = map breaks (count_clauses most_sequence 0 1 ∷ count_clauses most_sequence 0 0 ∷ count_clauses most_sequence 0 2 ∷ count_clauses most_sequence 65535 65536 ∷ count_clauses most_sequence 65536 65536 ∷ count_clauses most_sequence 65536 65537 ∷ [])

abbrev pub thirteens : List ℕ
thirteens = map breaks (count_clauses most_radials 999 1000 ∷ count_clauses most_radials 1000 1000 ∷ count_clauses most_radials 1000 1001 ∷ [])

-- number 19, by the length of data and the moment number: 1 not 1..64; 2 with 33 times as many bytes over the length
abbrev pub nineteens : List ℕ
nineteens = map breaks (moment_number_clauses 33 0 ∷ moment_number_clauses 33 1 ∷ moment_number_clauses 32 1 ∷ moment_number_clauses 2112 64 ∷ moment_number_clauses 2111 64 ∷ moment_number_clauses 2145 65 ∷ moment_number_clauses 33 65 ∷ [])

-- number 20, by the moments mask, the types seen and the type: 1 not 1..64; 2 seen before; 3 its bit in the mask is 0
abbrev pub twenties : List ℕ
twenties = map breaks (type_clauses 2 0 2 ∷ type_clauses 2 0 0 ∷ type_clauses 2 0 65 ∷ type_clauses 2 0 0xFFFF_FFFF ∷ type_clauses 2 2 2 ∷ type_clauses 1 2 2 ∷ type_clauses 2 0 1 ∷ type_clauses 2 0 3 ∷ [])

-- number 23, by the size mask, the type and the bin length: 1 not 1 where its bit is 0; 2 not 2 where it is 1
abbrev pub twenty-threes : List ℕ
twenty-threes = map breaks (bin_length_clauses 0 2 1 ∷ bin_length_clauses 0 2 0 ∷ bin_length_clauses 0 2 2 ∷ bin_length_clauses 2 2 2 ∷ bin_length_clauses 2 2 1 ∷ bin_length_clauses 2 2 0 ∷ [])

-- number 24, by the moments to come, the bytes left, the bin length and the length: 1 not 1..32,768; 2 no multiple of bin length; 3 wrong
-- for the tiling
abbrev pub twenty-fours : List ℕ
twenty-fours = map breaks (length_clauses 1 36 1 4 ∷ length_clauses 1 36 1 0 ∷ length_clauses 1 32801 1 32769 ∷ length_clauses 1 36 2 3 ∷ length_clauses 1 36 1 5 ∷ length_clauses 1 36 1 3 ∷ length_clauses 2 69 1 4 ∷ length_clauses 2 68 1 4 ∷ [])

pub record Clauses : Type 0 where
  pub eight : eights ≡ 1 ∷ 0 ∷ 0 ∷ 1 ∷ 1 ∷ 0 ∷ 2 ∷ 2 ∷ 1 ∷ 0 ∷ []
  pub twelve : twelves ≡ 0 ∷ 1 ∷ 1 ∷ 0 ∷ 1 ∷ 2 ∷ []
  pub thirteen : thirteens ≡ 0 ∷ 1 ∷ 2 ∷ []
  pub nineteen : nineteens ≡ 1 ∷ 0 ∷ 2 ∷ 0 ∷ 2 ∷ 1 ∷ 1 ∷ []
  pub twenty : twenties ≡ 0 ∷ 1 ∷ 1 ∷ 1 ∷ 2 ∷ 2 ∷ 3 ∷ 3 ∷ []
  pub twenty-three : twenty-threes ≡ 0 ∷ 1 ∷ 1 ∷ 0 ∷ 2 ∷ 2 ∷ []
  pub twenty-four : twenty-fours ≡ 0 ∷ 1 ∷ 1 ∷ 2 ∷ 3 ∷ 3 ∷ 0 ∷ 3 ∷ []

-- ---- the refusals of before

-- a rule with all of its clauses as one
abbrev pub as_one : Rule → Rule
as_one r = rule r.place r.size r.number (holds r ∷ [])

-- the number and the place in the block by which a block is refused; none where it is fine
abbrev pub refusal_in : Check → List ℕ
refusal_in (Ok tt) = []
refusal_in (Err c) = c.number ∷ c.place ∷ []

-- numbers and places are those of one line a field, and each such line holds where it held
pub record AsBefore : Type 0 where
  pub numbers : (rs : List Rule) → refusal_in (verdict rs) ≡ refusal_in (verdict (map as_one rs))
  pub eight : (scan n : ℕ) → every (cut_number_clauses scan n) ≡ among (pos 1) (pos (most_cuts scan)) (int n)
  pub twelve : (most before n : ℕ) → every (count_clauses most before n) ≡ (is (before + 1) (int n) && leb (before + 1) most)
  pub nineteen : (left k : ℕ) → every (moment_number_clauses left k) ≡ (among (pos 1) (pos 64) (int k) && leb (least_moment * k) left)
  pub twenty : (mask seen t : ℕ) → every (type_clauses mask seen t) ≡ (among (pos 1) (pos 64) (int t) && not (bit seen t) && bit mask t)
  pub twenty-three : (sizes t bin : ℕ) → every (bin_length_clauses sizes t bin) ≡ cond (bit sizes t) (is 2 (short bin)) (is 1 (short bin))
  pub twenty-four : (todo left bin n : ℕ) → every (length_clauses todo left bin n) ≡ (among (pos 1) (pos most_length) (int n) && eqb (n % bin) 0 && tiles todo left n)

-- ---- the statement

pub record Whys : Type 0 where
  -- a gate: the cited bytes alone give its answer by the formula; and what a refused question has instead
  pub gates : (f : List ℕ) (n t i : ℕ) → Because f n t i
  -- a file: its accepted blocks keep their rules, and of the block behind them the first broken clause is cited, every field before it
  -- keeping its rule; nothing is cited of an open or a complete file; and what is cited is what is told
  pub files : (f : List ℕ) → Bytes f → Grounded f
  pub told : CitesTold
  -- the fields and the clauses are the table's
  pub lines : (b : List ℕ) (d : RadialDue) (e : MomentDue) → Lines b d e
  pub clauses : Clauses
  -- and no refusal has changed for it
  pub as_before : AsBefore

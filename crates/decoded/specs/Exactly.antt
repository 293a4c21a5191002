-- What the answer on a decoded row means (document 02, #112), by what the gate question and the row question answer.
use Rattle.std.specs.Prelude.{ℕ, ◌+◌, ◌≤◌, ◌<◌, min, List, ◌++◌, ◌↔◌, ◌≡◌, ℤ, length, take, Result, Ok}
use Rattle.refusal.specs.declared.Refusal.{Refusal}
use Rattle.moment.specs.Moment.{moment_at}
use Rattle.gates.specs.Codes.{codes_of}
use Rattle.gates.specs.Rows.{told_row, row_kinds, row_hundredths}
use Rattle.gates.specs.Telling.{refused, answered}
use Rattle.moments.specs.Moments.{data_at}
use Rattle.reading.specs.declared.Stretch.{Stretch}
use Rattle.reading.specs.Reading.{bytes_of}
use Rattle.ask.specs.declared.places.Where.TheVariants.{At}
use Rattle.ask.specs.Answers.{coding_of}
use Rattle.ask.specs.Growth.{gate_asked, RowAsked}
use Rattle.ask.specs.Places.{where_is}
use Rattle.ask.specs.Shown.{ShownAt}
use Rattle.decoded.specs.Decoded.{same, differs, check_asked}

-- the moment of type t in radial n is there
pub record There (f : List ℕ) (n t : ℕ) : Type 0 where
  pub stretch : Stretch
  pub place : ℕ
  pub at : where_is f n t ≡ At stretch place

module _ (f : List ℕ) (n t : ℕ) (k : List ℕ) (h : List ℤ) where
  -- gate i is there in all three: it is answered, and both lists have it, as it is answered
  pub record Agrees (i : ℕ) : Type 0 where
    pub kinds : i < length k
    pub hundredths : i < length h
    pub shown : ShownAt f n t i k h

  -- all three have ended before gate i
  pub record Ended (i : ℕ) : Type 0 where
    pub row : gate_asked f n t i ≡ refused 32 0
    pub kinds : length k ≤ i
    pub hundredths : length h ≤ i

  -- the lists are the row: all gates agree, up to where all three end
  pub record IsRow : Type 0 where
    pub gates : ℕ
    pub each : (i : ℕ) → i < gates → Agrees i
    pub last : Ended gates

  -- gate g of a moment that is there is the first difference: every gate before it agrees; at g they do not, and not all three have
  -- ended
  pub record FirstApart (g : ℕ) : Type 0 where
    pub moment : There f n t
    pub before : (i : ℕ) → i < g → Agrees i
    pub apart : Agrees g → ⊥
    pub not-ended : Ended g → ⊥

  pub record Exactly : Type 0 where
    -- yes exactly when the lists are the row; a gate exactly when it is the first difference
    pub yes : (check_asked f n t k h ≡ answered same) ↔ IsRow
    pub first : (g : ℕ) → (check_asked f n t k h ≡ answered (differs g)) ↔ FirstApart g
    -- as whole lists: yes exactly when they are the two lists of the row, kinds and hundredths
    pub lists : (s : Stretch) (p : ℕ) → where_is f n t ≡ At s p
        → let c = coding_of (moment_at (bytes_of f s) p) in
        let codes = codes_of (moment_at (bytes_of f s) p).bin_length (data_at (bytes_of f s) p) in
        (check_asked f n t k h ≡ answered same) ↔ ((k ≡ row_kinds c codes) × (h ≡ row_hundredths c codes))
    -- yes exactly when the row question, lent these very lists, fills all of both and changes nothing
    pub refilled : (check_asked f n t k h ≡ answered same) ↔ ((length h ≡ length k) × RowAsked f n t k h (Ok (length k)) k h)
    -- lists that go on behind the row differ at its end, whichever goes on; those that end before it, at the first end
    pub longer : check_asked f n t k h ≡ answered same → (ks : List ℕ) (hs : List ℤ) → 0 < length ks + length hs
        → check_asked f n t (k ++ ks) (h ++ hs) ≡ answered (differs (length k))
    pub shorter : check_asked f n t k h ≡ answered same → (a b : ℕ) → min a b < length k
        → check_asked f n t (take a k) (take b h) ≡ answered (differs (min a b))

-- what the row question filled is answered yes, whatever the rooms held and hold past it
abbrev pub FilledIsRow : Type 0
FilledIsRow = (f : List ℕ) (n t m : ℕ) (k k' : List ℕ) (h h' : List ℤ) (r : Result ℕ Refusal) → told_row r ≡ answered m → RowAsked f n t k h r k' h'
    → check_asked f n t (take m k') (take m h') ≡ answered same

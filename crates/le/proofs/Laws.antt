-- Laws of little-endian numbers, of a part of a list, and of a list with a part replaced, over the width. Assumes nothing.
use mathlib.Core.Path.{◌≡◌, refl, sym, ap, ◌∙◌}
use mathlib.Core.Bool.{true, false}
use mathlib.Core.Logic.{dite}
use mathlib.Core.List.{List, [], ◌∷◌, ◌++◌, append_assoc, append-nil}
use Prim.Native.Nat.{ℕ, zero, suc, ◌+◌, ◌*◌, ◌-◌, ◌/◌, ◌%◌, ◌^◌, ◌≤◌, ◌<◌}
use native.Mathlib.Nat.{mul-zero, mul-suc, suc-mul, zero-mul, mul-le-mul_left, not-suc-le-zero, le_of_suc-le-suc, add-zero, zero-add, suc-add, pow-suc, pow-succ', one-le-pow, div-one, div-div-eq-div-mul}
use native.Mathlib.Numerals.{add-one}
use native.Mathlib.Decide.{dec_lt}
use native.Mathlib.Omega.{arith}
use lib.Dec.{lit<, leb}
use lib.Arith.{mod-mul}
use lib.ListN.{replicate, length, get_or, take, drop, set, length-append, length-take, length-drop, get_or-eq_default, get_or-append}
use borrow.Rule.Slice.PartMut.{put_mid}
use lib.Seq.{drop-cons, take_at, drop_at, drop-append-add, drop-drop, get_or-append-add, get_or-take, get_or-drop, length-take-le, take_all, drop-length, sets-eq, set_at, append_snoc, paste-zero}
use borrow.Author.Tests.{le-leb, lt-leb}
use Rattle.std.specs.Prelude.{slice_range}
use Rattle.std.specs.Int.{w16, w32, w64, from_le_bytes, to_le_bytes}
use Rattle.le.specs.Le.{le, bytes, part, patch, stored, Bytes, run, items}

-- ---- numbers

pow-pos' : (n : ℕ) → 0 < 256 ^ n
pow-pos' n = one-le-pow n 256 (lit< tt)

pub length-bytes : (n x : ℕ) → length (bytes n x) ≡ n
unfolding bytes
length-bytes zero x = refl
length-bytes (suc n) x = ap suc (length-bytes n (x / 256))

le-cons : (n y : ℕ) (l : List ℕ) (at : ℕ) → le n (y ∷ l) (suc at) ≡ le n l at
unfolding le
le-cons zero y l at = refl
le-cons (suc n) y l at = rw (suc-add, le-cons n y l (at + 1))

-- a number past a list's end is 0
pub le-beyond : (n : ℕ) (f : List ℕ) (at : ℕ) → length f ≤ at → le n f at ≡ 0
unfolding le
le-beyond zero f at h = refl
le-beyond (suc n) f at h = rw (get_or-eq_default f 0 h, le-beyond n f (at + 1) (omega arith))

-- the bytes of a number, read back
pub le_bytes : (n x : ℕ) (b : List ℕ) → x < 256 ^ n → le n (bytes n x ++ b) 0 ≡ x
unfolding le bytes
le_bytes zero x b h = let h1 : x < 1 = h in omega arith
le_bytes (suc n) x b h =
    let h1 : x < 256 ^ n * 256 = rw (← pow-suc 256 n) h in
    let h2 : x / 256 < 256 ^ n = omega arith in
    rw (le-cons n (x % 256) (bytes n (x / 256) ++ b) 0, le_bytes n (x / 256) b h2) (omega arith)

-- a number's bytes are those that it was read from
pub bytes_le : (n : ℕ) (f : List ℕ) (at : ℕ) → Bytes f → bytes n (le n f at) ≡ part n f at
unfolding le bytes part
bytes_le zero f at bs = refl
bytes_le (suc n) f at bs =
    let b = bs.byte at in
    let low : (get_or f at 0 + 256 * le n f (at + 1)) % 256 ≡ get_or f at 0 = omega arith in
    let high : (get_or f at 0 + 256 * le n f (at + 1)) / 256 ≡ le n f (at + 1) = omega arith in
    rw (low, high, bytes_le n f (at + 1) bs)

pub le-lt : (n : ℕ) (f : List ℕ) (at : ℕ) → Bytes f → le n f at < 256 ^ n
unfolding le
le-lt zero f at bs = lit< tt
le-lt (suc n) f at bs =
    let b = bs.byte at in
    let r = le-lt n f (at + 1) bs in
    rw (pow-suc 256 n) (omega arith)

-- the bytes of a number, cut in two
pub bytes_cut : (m n x : ℕ) → bytes (m + n) x ≡ bytes m x ++ bytes n (x / 256 ^ m)
unfolding bytes
bytes_cut zero n x = rw (zero-add, div-one)
bytes_cut (suc m) n x =
    rw (suc-add, bytes_cut m n (x / 256), div-div-eq-div-mul x 256 (256 ^ m), pow-succ' 256 m)

-- what stands above n bytes does not matter
pub bytes_low : (n x : ℕ) → bytes n (x % 256 ^ n) ≡ bytes n x
unfolding bytes
bytes_low zero x = refl
bytes_low (suc n) x =
    let q = x / 256 % 256 ^ n in
    let e : x % 256 ^ suc n ≡ q * 256 + x % 256 = rw (pow-suc 256 n) (mod-mul x (pow-pos' n) (lit< tt)) in
    let low : (q * 256 + x % 256) % 256 ≡ x % 256 = omega arith in
    let high : (q * 256 + x % 256) / 256 ≡ q = omega arith in
    rw (e, low, high, bytes_low n (x / 256))

-- ---- parts

pub length_part : (n : ℕ) (f : List ℕ) (at : ℕ) → length (part n f at) ≡ n
unfolding part
length_part zero f at = refl
length_part (suc n) f at = ap suc (length_part n f (at + 1))

pub part_join : (m n : ℕ) (f : List ℕ) (at : ℕ) → part m f at ++ part n f (at + m) ≡ part (m + n) f at
unfolding part
part_join zero n f at = rw (zero-add, add-zero)
part_join (suc m) n f at =
    let e : at + suc m ≡ at + 1 + m = omega arith in
    rw (suc-add, e) (ap (λ (l : List ℕ). get_or f at 0 ∷ l) (part_join m n f (at + 1)))

-- a part that lies within the list
pub part-here : (n : ℕ) (f : List ℕ) (at : ℕ) → at + n ≤ length f → take n (drop at f) ≡ part n f at
unfolding part
part-here zero f at h = refl
part-here (suc n) f at h =
    let h1 : at + 1 + n ≤ length f = omega arith in
    let h2 : at < length f = omega arith in
    rw (drop-cons f at 0 h2, ← add-one at) (ap (λ (l : List ℕ). get_or f at 0 ∷ l) (part-here n f (at + 1) h1))

pub part-all : (n : ℕ) (f : List ℕ) → length f ≡ n → part n f 0 ≡ f
part-all n f h = sym (part-here n f 0 (omega arith)) ∙ take_all n f (omega arith)

-- a part that was lent, as the code cuts it
pub part-is : (n : ℕ) (f : List ℕ) (at : ℕ) → at + n ≤ length f → take (at + n - at) (drop at f) ≡ part n f at
part-is n f at h = let e : at + n - at ≡ n = omega arith in rw e (part-here n f at h)

-- what reaches to the end of a list is all that is left of it
pub to_end : (l : List ℕ) (a n : ℕ) → length l ≤ a + n → take n (drop a l) ≡ drop a l
to_end l a n h = take_all n (drop a l) (simp length-drop (omega arith))

-- the element of a part
pub part_at : (n : ℕ) (f : List ℕ) (at i : ℕ) → i < n → get_or (part n f at) i 0 ≡ get_or f (at + i) 0
unfolding part
part_at zero f at i h = absurd (omega arith)
part_at (suc n) f at zero h = rw add-zero
part_at (suc n) f at (suc i) h = let e : at + suc i ≡ at + 1 + i = omega arith in rw e (part_at n f (at + 1) i (omega arith))

-- a part sees only the bytes at its places, and a number sees only the part at its place
pub part_same : (n : ℕ) (f g : List ℕ) (at to : ℕ) → ((i : ℕ) → i < n → get_or f (at + i) 0 ≡ get_or g (to + i) 0) → part n f at ≡ part n g to
unfolding part
part_same zero f g at to h = refl
part_same (suc n) f g at to h =
    let h0 : get_or f at 0 ≡ get_or g to 0 = rw (add-zero at, add-zero to) at (h 0 (omega arith)) in
    let r = part_same n f g (at + 1) (to + 1) (λ i k. let ea : at + 1 + i ≡ at + suc i = omega arith in let et : to + 1 + i ≡ to + suc i = omega arith in rw (ea, et) (h (suc i) (omega arith))) in
    rw (h0, r)

pub le-own : (n : ℕ) (f : List ℕ) (at : ℕ) → le n (part n f at) 0 ≡ le n f at
unfolding le part
le-own zero f at = refl
le-own (suc n) f at = rw (le-cons n (get_or f at 0) (part n f (at + 1)) 0, le-own n f (at + 1))

-- a part that follows a list, and one within its front
pub part-past : (n : ℕ) (a b : List ℕ) (k : ℕ) → part n (a ++ b) (length a + k) ≡ part n b k
part-past n a b k = part_same n (a ++ b) b (length a + k) k (λ i h. let e : length a + k + i ≡ length a + (k + i) = omega arith in rw e (get_or-append-add a b (k + i) 0))

pub part_in : (n : ℕ) (a b : List ℕ) (at : ℕ) → at + n ≤ length a → part n (a ++ b) at ≡ part n a at
part_in n a b at h = part_same n (a ++ b) a at at (λ i k. get_or-append a b 0 (at + i) (omega arith))

-- a part within a list's front, and one of what follows a place
pub part-take : (n : ℕ) (f : List ℕ) (at m : ℕ) → at + n ≤ m → part n (take m f) at ≡ part n f at
part-take n f at m h = part_same n (take m f) f at at (λ i k. get_or-take m f (at + i) 0 (omega arith))

pub part-drop : (n m : ℕ) (f : List ℕ) (at : ℕ) → part n (drop m f) at ≡ part n f (m + at)
part-drop n m f at = part_same n (drop m f) f at (m + at) (λ i h. get_or-drop m f (at + i) 0 ∙ ap (λ (j : ℕ). get_or f j 0) (omega arith))

-- a part, and a number, of a part
pub part-part : (m n : ℕ) (f : List ℕ) (at k : ℕ) → k + m ≤ n → part m (part n f at) k ≡ part m f (at + k)
part-part m n f at k h = part_same m (part n f at) f k (at + k) (λ i j. let e : at + k + i ≡ at + (k + i) = omega arith in rw e (part_at n f at (k + i) (omega arith)))

pub le-part : (m n : ℕ) (f : List ℕ) (at k : ℕ) → k + m ≤ n → le m (part n f at) k ≡ le m f (at + k)
le-part m n f at k h = sym (le-own m (part n f at) k) ∙ ap (λ (l : List ℕ). le m l 0) (part-part m n f at k h) ∙ le-own m f (at + k)

-- a part past a list's end is zeros, and one that the end cuts short is what there is, put over zeros
pub part-beyond : (n : ℕ) (f : List ℕ) (at : ℕ) → length f ≤ at → part n [] 0 ≡ part n f at
part-beyond n f at h = part_same n [] f 0 at (λ i k. sym (get_or-eq_default f 0 (omega arith)))

pub part-short : (n : ℕ) (f : List ℕ) (at : ℕ) → at ≤ length f → length f ≤ at + n → patch (part n [] 0) 0 (take (length f - at) (drop at f)) ≡ part n f at
unfolding patch
part-short n f at h k =
    let m = length f - at in
    let e : m + (n - m) ≡ n = omega arith in
    let zeros : drop m (part n [] 0) ≡ part (n - m) f (at + m) =
    ap (drop m) (sym (part_join m (n - m) [] 0 ∙ ap (λ (j : ℕ). part j [] 0) e)) ∙ drop_at (part m [] 0) (part (n - m) [] (0 + m)) m (length_part m [] 0)
    ∙ sym (part-beyond (n - m) [] (0 + m) (omega arith)) ∙ part-beyond (n - m) f (at + m) (omega arith) in
    rw (part-here m f at (omega arith), length_part m f at, zero-add m, zeros) (part_join m (n - m) f at ∙ ap (λ (j : ℕ). part j f at) e)

-- each byte of a part is a byte
pub part_bytes : (n : ℕ) (f : List ℕ) (at : ℕ) → Bytes f → Bytes (part n f at)
unfolding part
part_bytes n f at bs = record { byte = go n at }
  where
    go : (n at : ℕ) (i : ℕ) → get_or (part n f at) i 0 < 256
    go zero at i = lit< tt
    go (suc n) at zero = bs.byte at
    go (suc n) at (suc i) = go n (at + 1) i

-- and each byte of the middle of a list
pub middle-bytes : (n m : ℕ) (f : List ℕ) → Bytes f → Bytes (take n (drop m f))
middle-bytes n m f bs = record {
  byte = λ i. dite (dec_lt i n) (λ h. rw (get_or-take n (drop m f) i 0 h, get_or-drop m f i 0) (bs.byte (m + i)))
      (λ h. let e : length (take n (drop m f)) ≤ i = simp length-take (omega arith) in rw (get_or-eq_default (take n (drop m f)) 0 e) (lit< tt));
}

-- a part that begins with a part
pub join : (f : List ℕ) {x y : List ℕ} (m n : ℕ) → x ≡ part m f 0 → y ≡ part n f m → x ++ y ≡ part (m + n) f 0
join f {x} {y} m n ex ey = let j = part_join m n f 0 in rw (ex, ey) (rw (zero-add m) at j)

-- ---- replaced parts

pub length-patch : (f : List ℕ) (at : ℕ) (bs : List ℕ) → at + length bs ≤ length f → length (patch f at bs) ≡ length f
unfolding patch
length-patch f at bs h = simp (length-append, length-take, length-drop) (omega arith)

-- one patch after the other is the patch by both
pub patch-join : (f : List ℕ) (at n : ℕ) (a b : List ℕ) → length a ≡ n → at + n + length b ≤ length f
    → patch (patch f at a) (at + n) b ≡ patch f at (a ++ b)
unfolding patch
patch-join f at n a b e h =
    let la : length (take at f ++ a) ≡ at + n = simp (length-append, length-take) (omega arith) in
    let lab : at + length (a ++ b) ≡ at + n + length b = simp length-append (omega arith) in
    let en : at + length a ≡ at + n = omega arith in
    let tail : drop (at + n + length b) (take at f ++ a ++ drop (at + n) f) ≡ drop (at + n + length b) f =
    ap (λ (k : ℕ). drop (k + length b) (take at f ++ a ++ drop (at + n) f)) (sym la)
    ∙ drop-append-add (take at f ++ a) (drop (at + n) f) (length b) ∙ drop-drop (length b) (at + n) f in
    rw (en, lab, take_at (take at f ++ a) (drop (at + n) f) (at + n) la, tail) (simp append_assoc)

-- a patch of the whole
pub patch-all : (f bs : List ℕ) → length bs ≡ length f → patch f 0 bs ≡ bs
unfolding patch
patch-all f bs h = rw (zero-add, h, drop-length f, append-nil bs)

-- what was put there is there
pub part-patch : (n : ℕ) (f : List ℕ) (at : ℕ) (bs : List ℕ) → length bs ≡ n → at + n ≤ length f → part n (patch f at bs) at ≡ bs
unfolding patch
part-patch n f at bs e h =
    let la : length (take at f) ≡ at = length-take-le at f (omega arith) in
    let z : length (take at f) + 0 ≡ at = omega arith in
    ap (part n (take at f ++ bs ++ drop (at + length bs) f)) (sym z)
    ∙ rw (append_assoc (take at f) bs (drop (at + length bs) f)) (part-past n (take at f) (bs ++ drop (at + length bs) f) 0)
    ∙ part_in n bs (drop (at + length bs) f) 0 (omega arith) ∙ part-all n bs e

-- what is put, where it fits and where it does not, by the test and by the order
pub stored-yes : (n : ℕ) (f : List ℕ) (at : ℕ) (bs : List ℕ) → leb (at + n) (length f) ≡ true → stored n f at bs ≡ patch f at bs
unfolding stored
stored-yes n f at bs t = rw t

pub stored_no : (n : ℕ) (f : List ℕ) (at : ℕ) (bs : List ℕ) → leb (at + n) (length f) ≡ false → stored n f at bs ≡ f
unfolding stored
stored_no n f at bs t = rw t

pub stored-in : (n : ℕ) (f : List ℕ) (at : ℕ) (bs : List ℕ) → at + n ≤ length f → stored n f at bs ≡ patch f at bs
stored-in n f at bs h = stored-yes n f at bs (le-leb (at + n) (length f) h)

pub stored-out : (n : ℕ) (f : List ℕ) (at : ℕ) (bs : List ℕ) → length f < at + n → stored n f at bs ≡ f
stored-out n f at bs h = stored_no n f at bs (lt-leb (at + n) (length f) h)

-- ---- what straight-line stores leave

pub stores2 : (f : List ℕ) (at a b : ℕ) → at + 2 ≤ length f → set (set f at a) (at + 1) b ≡ patch f at (a ∷ b ∷ [])
unfolding patch
stores2 f at a b h = rw (add-one at) (sets-eq (a ∷ b ∷ []) f at h)

pub stores4 : (f : List ℕ) (at a b c d : ℕ) → at + 4 ≤ length f
    → set (set (set (set f at a) (at + 1) b) (at + 2) c) (at + 3) d ≡ patch f at (a ∷ b ∷ c ∷ d ∷ [])
unfolding patch
stores4 f at a b c d h =
    let e2 : at + 2 ≡ suc (suc at) = omega arith in
    let e3 : at + 3 ≡ suc (suc (suc at)) = omega arith in
    rw (add-one at, e2, e3) (sets-eq (a ∷ b ∷ c ∷ d ∷ []) f at h)

-- ---- a block laid down run by run: g is f with x, n bytes long, at place `at`

pub record Laid (f : List ℕ) (at : ℕ) (g : List ℕ) (n : ℕ) (x : List ℕ) : Type 0 where
  pub is : g ≡ patch f at x
  pub long : length x ≡ n
  pub same : length g ≡ length f

pub laid-first : {f g : List ℕ} (at n : ℕ) {x : List ℕ} → g ≡ stored n f at x → length x ≡ n → at + n ≤ length f → Laid f at g n x
laid-first {f} {g} at n {x} e l h =
    let is = e ∙ stored-in n f at x h in
    record { is = is; long = l; same = rw is (length-patch f at x (omega arith)) }

pub laid_next : {f g h : List ℕ} {at n : ℕ} {x : List ℕ} (m : ℕ) (y : List ℕ) → Laid f at g n x → h ≡ stored m g (at + n) y → length y ≡ m → at + n + m ≤ length f
    → Laid f at h (n + m) (x ++ y)
laid_next {f} {g} {h} {at} {n} {x} m y p e l b =
    let lx = p.long in
    let lg = p.same in
    let is : h ≡ patch f at (x ++ y) =
    e ∙ stored-in m g (at + n) y (omega arith) ∙ rw p.is (patch-join f at n x y lx (omega arith)) in
    let lxy : length (x ++ y) ≡ n + m = simp length-append (omega arith) in
    record { is = is; long = lxy; same = rw is (length-patch f at (x ++ y) (omega arith)) }

-- ---- runs

module _ {A : Type 0} (enc : A → List ℕ) (k : ℕ) (long : (x : A) → length (enc x) ≡ k) where
  pub length_run : (l : List A) → length (run enc l) ≡ k * length l
  unfolding run
  length_run [] = sym (mul-zero k)
  length_run (x ∷ l) = rw (length-append (enc x) (run enc l), long x, length_run l, mul-suc k (length l)) (omega arith)

  run_take : (l : List A) (i : ℕ) (d : A) → i < length l → run enc (take (suc i) l) ≡ run enc (take i l) ++ enc (get_or l i d)
  unfolding run
  run_take [] i d h = absurd (not-suc-le-zero h)
  run_take (x ∷ l) zero d h = append-nil (enc x)
  run_take (x ∷ l) (suc i) d h = rw (run_take l i d (le_of_suc-le-suc h)) (sym (append_assoc (enc x) (run enc (take i l)) (enc (get_or l i d))))

  -- a turn of the loop that puts a run
  pub run-turn : (f g h : List ℕ) (at : ℕ) (l : List A) (i : ℕ) (d : A) → i < length l → at + k * length l ≤ length f
      → g ≡ patch f at (run enc (take i l)) → h ≡ patch g (at + k * i) (enc (get_or l i d)) → h ≡ patch f at (run enc (take (i + 1) l))
  run-turn f g h at l i d il fits eg eh =
      let lt : length (take i l) ≡ i = length-take-le i l (omega arith) in
      let lr : length (run enc (take i l)) ≡ k * i = length_run (take i l) ∙ ap (λ (n : ℕ). k * n) lt in
      let le1 = long (get_or l i d) in
      let up : k * i + k ≤ k * length l = rw (← mul-suc k i) (mul-le-mul_left k il) in
      eh ∙ rw (eg, add-one i, run_take l i d il) (patch-join f at (k * i) (run enc (take i l)) (enc (get_or l i d)) lr (omega arith))

  pub run_none : (f : List ℕ) (at : ℕ) (l : List A) → f ≡ patch f at (run enc (take 0 l))
  unfolding run patch
  run_none f at l = paste-zero f at []

part_none : (f : List ℕ) (at : ℕ) {n : ℕ} → n ≡ 0 → [] ≡ part n f at
unfolding part
part_none f at e = rw e

-- elements that were read: how many there are, and which stands at each place
module _ {A : Type 0} (dec : List ℕ → ℕ → A) (k : ℕ) where
  pub length-items : (n : ℕ) (f : List ℕ) (at : ℕ) → length (items dec k n f at) ≡ n
  unfolding items
  length-items zero f at = refl
  length-items (suc n) f at = ap suc (length-items n f (at + k))

  pub get_d-items : (n : ℕ) (f : List ℕ) (at i : ℕ) (d : A) → i < n → get_or (items dec k n f at) i d ≡ dec f (at + i * k)
  unfolding items
  get_d-items zero f at i d h = absurd (omega arith)
  get_d-items (suc n) f at zero d h = rw (zero-mul, add-zero)
  get_d-items (suc n) f at (suc i) d h =
      let e : at + suc i * k ≡ at + k + i * k = rw suc-mul (omega arith) in
      get_d-items n f (at + k) i d (omega arith) ∙ ap (dec f) (sym e)

-- a run of elements that were read has the bytes that were there
pub run-items : {A : Type 0} (enc : A → List ℕ) (dec : List ℕ → ℕ → A) (k n : ℕ) (f : List ℕ) (at : ℕ)
    → ((p : ℕ) → enc (dec f p) ≡ part k f p) → run enc (items dec k n f at) ≡ part (k * n) f at
unfolding run items
run-items enc dec k zero f at each = part_none f at (mul-zero k)
run-items enc dec k (suc n) f at each =
    let m = mul-suc k n in
    let e : k * suc n ≡ k + k * n = omega arith in
    rw (each at, run-items enc dec k n f (at + k) each, e) (part_join k (k * n) f at)

-- the numbers of n bytes that stand from a place on
pub run-numbers : (w n : ℕ) (f : List ℕ) (at : ℕ) → Bytes f → run (bytes w) (items (le w) w n f at) ≡ part (w * n) f at
run-numbers w n f at bs = run-items (bytes w) (le w) w n f at (λ p. bytes_le w f p bs)

-- ---- a loop that fills a list from its front: the first i are read

module _ (f : List ℕ) (at : ℕ) where
  part-snoc : (i : ℕ) → part (suc i) f at ≡ part i f at ++ (get_or f (at + i) 0 ∷ [])
  unfolding part
  part-snoc i = ap (λ (n : ℕ). part n f at) (sym (add-one i)) ∙ sym (part_join i 1 f at)

  pub part-turn : (d : List ℕ) (i v : ℕ) → i < length d → v ≡ get_or f (at + i) 0
      → set (part i f at ++ drop i d) i v ≡ part (i + 1) f at ++ drop (i + 1) d
  part-turn d i v h e =
      rw (e, add-one i, part-snoc i, drop-cons d i 0 h)
      (set_at (part i f at) (get_or d i 0) (drop (suc i) d) (get_or f (at + i) 0) i (length_part i f at)
      ∙ sym (append_snoc (part i f at) (get_or f (at + i) 0) (drop (suc i) d)))

-- a run of two lists, and of one element more
pub run-append : {A : Type 0} (enc : A → List ℕ) (a b : List A) → run enc (a ++ b) ≡ run enc a ++ run enc b
unfolding run
run-append enc [] b = refl
run-append enc (x ∷ xs) b = ap (λ (l : List ℕ). enc x ++ l) (run-append enc xs b) ∙ sym (append_assoc (enc x) (run enc xs) (run enc b))

pub run_end : {A : Type 0} (enc : A → List ℕ) (a : List A) (x : A) → run enc (a ++ (x ∷ [])) ≡ run enc a ++ enc x
unfolding run
run_end enc a x = run-append enc a (x ∷ []) ∙ ap (λ (l : List ℕ). run enc a ++ l) (append-nil (enc x))

-- a part of a list written over
pub laid_over : (f : List ℕ) (at : ℕ) {new : List ℕ} (bs : List ℕ) → at + length bs ≤ length f → new ≡ bs
    → put_mid at (at + length bs - at) f new ≡ patch f at bs
unfolding patch
laid_over f at bs h e =
    let n : at + length bs - at ≡ length bs = omega arith in
    rw (e, n, drop-drop (length bs) at f) (sym (append_assoc (take at f) bs (drop (at + length bs) f)))

-- as many zeros as there are bytes past the end of a list
pub zeros : (n : ℕ) → replicate n 0 ≡ part n [] 0
unfolding part
zeros n = go n 0
  where
    go : (n at : ℕ) → replicate n 0 ≡ part n [] at
    go zero at = refl
    go (suc n) at = ap (λ (l : List ℕ). 0 ∷ l) (go n (at + 1))

-- a list from a place on, as `get` gives it
pub tail-is : (f : List ℕ) (at : ℕ) {tail : List ℕ} → tail ≡ slice_range f at (length f) → at ≤ length f → tail ≡ drop at f
tail-is f at e h = e ∙ to_end f at (length f - at) (omega arith)

-- a list, and zeros behind it
pub padded-out : (n : ℕ) (f : List ℕ) {new : List ℕ} → length f < n → new ≡ f → new ++ drop (length f) (replicate n 0) ≡ part n f 0
unfolding patch
padded-out n f h e =
    let all : take (length f - 0) (drop 0 f) ≡ f = to_end f 0 (length f - 0) (omega arith) in
    rw (e, zeros n, ← zero-add (length f))
    (ap (patch (part n [] 0) 0) (sym all) ∙ part-short n f 0 (omega arith) (omega arith))

-- a number by its bytes, as std's own conversions have it
pub from16 : (bs : List ℕ) → from_le_bytes w16 bs ≡ le 2 bs 0
unfolding le
from16 bs = omega arith

pub from32 : (bs : List ℕ) → from_le_bytes w32 bs ≡ le 4 bs 0
unfolding le
from32 bs = omega arith

pub from64 : (bs : List ℕ) → from_le_bytes w64 bs ≡ le 8 bs 0
unfolding le
from64 bs = omega arith

pub to32 : (x : ℕ) → to_le_bytes w32 x ≡ bytes 4 x
unfolding bytes
to32 x = simp div-div-eq-div-mul refl

pub to64 : (x : ℕ) → to_le_bytes w64 x ≡ bytes 8 x
unfolding bytes
to64 x = simp div-div-eq-div-mul refl

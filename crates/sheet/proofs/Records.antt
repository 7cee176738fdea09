-- The laws of bytes, `record_at`, `body_at` and `part`: a whole record lies within the file.
-- Assumes nothing.
use Prim.Native.Nat.{ℕ, ◌+◌, ◌-◌, ◌*◌, ◌≤◌, ◌<◌}
use mathlib.Core.Path.{◌≡◌, refl, sym, ap, ◌∙◌}
use mathlib.Core.List.{List, []}
use native.Mathlib.Nat.{add-sub_cancel_left}
use native.Mathlib.Omega.{arith}
use borrow.Author.Tests.{ltb-true, ltb-false, leb-false, lt-ltb, le-ltb, lt-leb}
use lib.Dec.{ltb, leb}
use lib.ListN.{length, take, drop, length-take, length-drop, get_or-eq_default}
use lib.Seq.{get_or-take, get_or-drop}
use Rattle.std.specs.Prelude.{Option, Some, None}
use Rattle.common.proofs.Bools.{by_cases}
use Rattle.sheet.specs.declared.record.Record.{Record}
use Rattle.sheet.specs.Record.{whole}
use Rattle.sheet.specs.Record.{byte, word, record_at, part, body_of, body_at}

-- past the end of a file bytes and numbers are 0
pub byte_past : (s : List ℕ) (i : ℕ) → length s ≤ i → byte s i ≡ 0
byte_past s i h = get_or-eq_default s 0 h

pub word-past : (s : List ℕ) (i : ℕ) → length s ≤ i → word s i ≡ 0
unfolding word
word-past s i h = omega (arith, byte_past s i h, byte_past s (i + 1) (omega arith))

-- what a whole record says of the bytes at its place
pub record WholeAt (s : List ℕ) (at kind start len : ℕ) : Type 0 where
  pub starts : start ≡ at + 4
  pub length-word : len ≡ word s at
  pub kind-word : kind ≡ word s (at + 2)
  pub within : start + len ≤ length s

pub cut-not-whole : {kind start len : ℕ} → None ≡ whole kind start len → ⊥
cut-not-whole e = let z : ◌≡◌ {A = ℕ} 0 1 = cc in omega arith

some-same : {a b : Record} → Some a ≡ Some b → a ≡ b
some-same e = cc

pub whole-at : (s : List ℕ) (at : ℕ) {kind start len : ℕ} → record_at s at ≡ whole kind start len
    → WholeAt s at kind start len
unfolding record_at
whole-at s at {kind} {start} {len} e =
    by_cases (leb (length s) at) (λ t. absurd (cut-not-whole (rw t at e))) (λ f.
    by_cases (ltb (length s - at) 4) (λ t. absurd (cut-not-whole (rw (f, t) at e))) (λ g.
    by_cases (ltb (length s - at - 4) (word s at)) (λ t. absurd (cut-not-whole (rw (f, g, t) at e))) (λ h.
    let q = some-same (rw (f, g, h) at e) in
    let st : at + 4 ≡ start = ap (λ r. r.start) q in
    let le : word s at ≡ len = ap (λ r. r.len) q in
    record {
      starts = sym st;
      length-word = sym le;
      kind-word = sym (ap (λ r. r.kind) q);
      within = omega (arith, leb-false, ltb-false);
    })))

-- the same for what `read` answers
module _ (s : List ℕ) (at : ℕ) {r : Option Record} (e : r ≡ record_at s at) where
  module _ {it : Record} (q : r ≡ Some it) where
    its-place : WholeAt s at it.kind it.start it.len
    its-place = whole-at s at (sym e ∙ q)

    pub whole-starts : it.start ≡ at + 4
    whole-starts = its-place.starts

    pub whole-within : it.start + it.len ≤ length s
    whole-within = its-place.within

    pub body-part : part s it.start it.len ≡ body_at s at
    unfolding body_at
    body-part = sym (ap (body_of s) (sym e ∙ q))

    pub body-whole : take (it.start + it.len - it.start) (drop it.start s) ≡ body_at s at
    unfolding part
    body-whole = rw (add-sub_cancel_left it.start it.len) body-part

  pub body-none : r ≡ None → [] ≡ body_at s at
  unfolding body_at
  body-none q = sym (ap (body_of s) (sym e ∙ q))

-- a record that its file holds is whole
pub whole_here : (s : List ℕ) (at : ℕ) → at + 4 + word s at ≤ length s
    → record_at s at ≡ whole (word s (at + 2)) (at + 4) (word s at)
unfolding record_at
whole_here s at h =
    rw (
      lt-leb (length s) at (omega arith),
      le-ltb (length s - at) 4 (omega arith),
      le-ltb (length s - at - 4) (word s at) (omega arith),
    )

-- a record that its file does not hold whole is cut short, whatever its kind
pub cut_short : (s : List ℕ) (at : ℕ) → length s < at + 4 + word s at → record_at s at ≡ None
unfolding record_at
cut_short s at h =
    by_cases (leb (length s) at) (λ t. rw t) (λ f.
    by_cases (ltb (length s - at) 4) (λ t. rw (f, t)) (λ g.
    rw (f, g, lt-ltb (length s - at - 4) (word s at) (omega (arith, leb-false, ltb-false)))))

-- how reading tells: by the last place where a header can stand
module _ (s : List ℕ) (at : ℕ) where
  pub no_header : length s < 4 → None ≡ record_at s at
  no_header h = sym (cut_short s at (omega arith))

  module _ {last : ℕ} (e : last ≡ length s - 4) (some : 4 ≤ length s) where
    pub header-past : last < at → None ≡ record_at s at
    header-past h = sym (cut_short s at (omega arith))

    module _ {len kind : ℕ} (n : len ≡ byte s at + 256 * byte s (at + 1))
        (k : kind ≡ byte s (at + 2) + 256 * byte s (at + 3)) (in-file : at ≤ last) where
      is-len : word s at ≡ len
      unfolding word
      is-len = sym n

      is-kind : word s (at + 2) ≡ kind
      unfolding word
      is-kind = sym (k ∙ ap (λ i. byte s (at + 2) + 256 * byte s i) (omega arith))

      pub body-cut : last - at < len → None ≡ record_at s at
      body-cut h = sym (cut_short s at (omega (arith, is-len)))

      pub body-in : len ≤ last - at → whole kind (at + 4) len ≡ record_at s at
      body-in h = sym (whole_here s at (omega (arith, is-len)) ∙ rw (is-len, is-kind))

-- a part of a file has its length, and its bytes are the file's
pub part_length : (s : List ℕ) (start len : ℕ) → start + len ≤ length s → length (part s start len) ≡ len
unfolding part
part_length s start len h = simp (length-take, length-drop) (omega arith)

pub part-byte : (s : List ℕ) (start len i : ℕ) → i < len → byte (part s start len) i ≡ byte s (start + i)
unfolding part
part-byte s start len i h = rw (get_or-take, get_or-drop)

-- a body that is not empty stands behind the four bytes that tell its length
module _ (s : List ℕ) (at : ℕ) where
  body-of : (r : Option Record) → record_at s at ≡ r → 0 < length (body_at s at)
      → (body_at s at ≡ part s (at + 4) (word s at)) × (at + 4 + word s at ≤ length s)
  body-of (Some x) e h =
      let w = whole-at s at e in
      (sym (body-part s at (sym e) refl) ∙ rw (w.starts, w.length-word), omega (arith, w.starts, w.length-word, w.within))
  body-of None e h = absurd (let f : ⊥ = omega (arith, ap length (body-none s at (sym e) refl)) in f)

  module _ (some : 0 < length (body_at s at)) where
    pub body-word : word s at ≡ length (body_at s at)
    body-word =
        let b = body-of (record_at s at) refl some in
        sym (ap length b.0 ∙ part_length s (at + 4) (word s at) b.1)

    pub body-byte : (n : ℕ) → n < length (body_at s at) → byte s (at + 4 + n) ≡ byte (body_at s at) n
    body-byte n h =
        let b = body-of (record_at s at) refl some in
        sym (ap (λ l. byte l n) b.0 ∙ part-byte s (at + 4) (word s at) n (omega (arith, body-word)))

  -- and is bytes where the file is
  pub body-is-bytes : ((i : ℕ) → byte s i < 256) → (n : ℕ) → byte (body_at s at) n < 256
  body-is-bytes bytes n =
      by_cases (ltb n (length (body_at s at)))
      (λ t.
      let l = ltb-true n (length (body_at s at)) t in
      rw (← body-byte (omega arith) n l) (bytes (at + 4 + n)))
      (λ f. omega (arith, byte_past (body_at s at) n (ltb-false _ _ f)))

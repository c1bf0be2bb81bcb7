-- Text written piece after piece.
use Rattle.std.proofs.Common.{◌≡◌, ℕ, zero, suc, ◌+◌, ◌-◌, ◌/◌, ◌%◌, ◌≤◌, ◌<◌, List, [], ◌∷◌, ◌++◌, length, get_or, set, take, drop, refl, sym, ap, subst, ◌∙◌, append_assoc, append-nil, add-one, arith}
use Prim.Native.Char.{code}
use Rattle.std.proofs.Math.ListN.{take-append-drop}
use Rattle.std.proofs.Math.Nat.{add-zero}
use Rattle.std.proofs.Math.Seq.{set_split, take-suc, take_all}
use Rattle.std.proofs.lemmas.Bool.{lt-ltb, le-ltb}
use borrow.Rule.Slice.PartMut.{put_mid}
use Rattle.model.specs.Memory.{with_window}
use Rattle.model.specs.Characters.{bytes_of}
use Rattle.model.specs.Script.Output.{spelled, decimal, spaced, printed}
use Rattle.laws.specs.Parts.{part_back}
use Rattle.script_run.specs.declared.output.Output.{Output}
use Rattle.script_run.specs.Buffers.{Wrote, HasRoom, Appended}
use Rattle.script_run.proofs.Pieces as pieces
use Rattle.script_run.proofs.Pieces.{wrote_length, wrote_more}

-- ---- nothing, one byte, a text

wrote_none : (at : ℕ) (o : List ℕ) → Wrote at [] o o at
unfolding with_window
wrote_none at o = record {
  bytes = sym (ap (λ (k : ℕ). take at o ++ drop k o) (add-zero at) ∙ take-append-drop at o);
  end = sym (add-zero at);
}

pub wrote_byte : (at b : ℕ) (o : List ℕ) → at + 1 ≤ length o → Wrote at (b ∷ []) o (set o at b) (at + 1)
unfolding with_window
wrote_byte at b o h = record {
  bytes = set_split o at b (omega arith) ∙ ap (λ (k : ℕ). take at o ++ (b ∷ drop k o)) (sym (add-one at));
  end = refl;
}

pub wrote_text : (at : ℕ) (t u o : List ℕ) → u ≡ t → Wrote at t o (put_mid at (at + length t - at) o u) (at + length t)
wrote_text at t u o e = record {
  bytes = part_back at (at + length t) o u (omega arith) (omega (arith, ap length e)) ∙ ap (λ (x : List ℕ). with_window at x o) e;
  end = refl;
}

pub appended_none : (o : Output) → Appended [] o o
appended_none o = record { wrote = wrote_none o.at o.out.now; same_bytes = refl }

-- ---- one text after another, and room for each

pub appended_length : {t : List ℕ} {o o' : Output} → HasRoom t o → Appended t o o' → length o'.out.now ≡ length o.out.now
appended_length {t} {o} {o'} h a = wrote_length o.at t o.out.now o'.out.now o'.at h a.wrote

pub room_first : (s t : List ℕ) (o : Output) → HasRoom (s ++ t) o → HasRoom s o
room_first s t o h = pieces.room_first o.at s t o.out.now h

pub room_next : {s : List ℕ} (t : List ℕ) {o o' : Output} → HasRoom (s ++ t) o → Appended s o o' → HasRoom t o'
room_next {s} t {o} {o'} h a = pieces.room_next o.at s t o.out.now o'.out.now o'.at h a.wrote

pub appended_then : {s t : List ℕ} {o o' o'' : Output} → HasRoom s o → Appended s o o' → Appended t o' o'' → Appended (s ++ t) o o''
appended_then {s} {t} {o} {o'} {o''} h a b = record {
  wrote = wrote_more o.at s t o.out.now o'.out.now o''.out.now o'.at o''.at (omega arith) a.wrote b.wrote;
  same_bytes = b.same_bytes ∙ a.same_bytes;
}

-- the same text under another name
pub appended_as : {s t : List ℕ} {o o' : Output} → s ≡ t → Appended s o o' → Appended t o o'
appended_as {s} {t} {o} {o'} p a = subst (λ (x : List ℕ). Appended x o o') p a

pub room_as : {s t : List ℕ} (o : Output) → s ≡ t → HasRoom s o → HasRoom t o
room_as o p h = omega (arith, ap length p)

-- b is what the lent bytes hold when the output is let go
pub wrote_behind : {t : List ℕ} {o o' : Output} {b : List ℕ} → Appended t o o' → b ≡ o'.out.now → Wrote o.at t o.out.now b o'.at
wrote_behind a e = record { bytes = e ∙ a.wrote.bytes; end = a.wrote.end }

-- ---- a number

pub spelled-none : (k n : ℕ) → k ≡ 0 → [] ≡ spelled k n
unfolding spelled
spelled-none k n z = rw z

pub spelled-digit : (k n : ℕ) → (k ≡ 0 → ⊥) → n < 10 → spelled k n ≡ (code "0" + n) ∷ []
unfolding spelled
spelled-digit zero n z h = absurd (z refl)
spelled-digit (suc k) n z h = rw (lt-ltb n 10 h)

pub spelled_more : (k n : ℕ) → (k ≡ 0 → ⊥) → 10 ≤ n → spelled k n ≡ spelled (k - 1) (n / 10) ++ ((code "0" + n % 10) ∷ [])
unfolding spelled
spelled_more zero n z h = absurd (z refl)
spelled_more (suc k) n z h = rw (le-ltb n 10 h) (ap (λ (j : ℕ). spelled j (n / 10) ++ ((code "0" + n % 10) ∷ [])) e)
  where
    e : k ≡ suc k - 1
    e = omega arith

-- ---- several numbers

spaced-append : (xs ys : List ℕ) → spaced (xs ++ ys) ≡ spaced xs ++ spaced ys
unfolding spaced
spaced-append [] ys = refl
spaced-append (x ∷ xs) ys =
    ap (λ (l : List ℕ). code " " ∷ (decimal x ++ l)) (spaced-append xs ys) ∙ ap (λ (l : List ℕ). code " " ∷ l) (sym (append_assoc (decimal x) (spaced xs) (spaced ys)))

pub spaced_one : (ns : List ℕ) (i : ℕ) → i < length ns → spaced (take (i + 1) ns) ≡ spaced (take i ns) ++ (code " " ∷ decimal (get_or ns i 0))
unfolding spaced
spaced_one ns i h =
    ap (λ (k : ℕ). spaced (take k ns)) (add-one i) ∙ ap spaced (take-suc ns i 0 h) ∙ spaced-append (take i ns) (get_or ns i 0 ∷ [])
    ∙ ap (λ (l : List ℕ). spaced (take i ns) ++ (code " " ∷ l)) (append-nil (decimal (get_or ns i 0)))

spaced_split : (ns : List ℕ) (i : ℕ) → i < length ns → spaced ns ≡ (spaced (take i ns) ++ (code " " ∷ decimal (get_or ns i 0))) ++ spaced (drop (i + 1) ns)
spaced_split ns i h = ap spaced (sym (take-append-drop (i + 1) ns)) ∙ spaced-append (take (i + 1) ns) (drop (i + 1) ns) ∙ ap (λ (l : List ℕ). l ++ spaced (drop (i + 1) ns)) (spaced_one ns i h)

-- o is where the first number begins, o' where number i does
module _ (i : ℕ) (ns : List ℕ) (o o' : Output) (h : i < length ns) (r : HasRoom (spaced ns) o) (a : Appended (spaced (take i ns)) o o') where
  both : HasRoom (spaced (take i ns) ++ (code " " ∷ decimal (get_or ns i 0))) o
  both = room_first _ (spaced (drop (i + 1) ns)) o (room_as o (spaced_split ns i h) r)

  pub number_room : HasRoom (code " " ∷ decimal (get_or ns i 0)) o'
  number_room = room_next _ both a

  pub numbers_turn : (o'' : Output) → Appended (code " " ∷ decimal (get_or ns i 0)) o' o'' → Appended (spaced (take (i + 1) ns)) o o''
  numbers_turn o'' b = appended_as (sym (spaced_one ns i h)) (appended_then (room_first (spaced (take i ns)) _ o both) a b)

pub numbers_start : (ns : List ℕ) (o : Output) → Appended (spaced (take 0 ns)) o o
unfolding spaced
numbers_start ns o = appended_none o

pub numbers_end : (i : ℕ) (ns : List ℕ) (o o' : Output) → length ns ≤ i → Appended (spaced (take i ns)) o o' → Appended (spaced ns) o o'
numbers_end i ns o o' h a = appended_as (ap spaced (take_all i ns h)) a

-- ---- a line of print: the bracket, the word, the numbers, the end

module _ (w ns : List ℕ) (o a : Output) (r : HasRoom (printed w ns) o) (ea : Appended (bytes_of "(") o a) where
  after_open : HasRoom (w ++ (spaced ns ++ bytes_of ")\n")) a
  unfolding printed
  after_open = room_next _ r ea

  pub word_room : HasRoom w a
  word_room = room_first w (spaced ns ++ bytes_of ")\n") a after_open

  module _ (b : Output) (eb : Appended w a b) where
    after_word : HasRoom (spaced ns ++ bytes_of ")\n") b
    after_word = room_next _ after_open eb

    pub spaced_room : HasRoom (spaced ns) b
    spaced_room = room_first (spaced ns) (bytes_of ")\n") b after_word

    module _ (d : Output) (ed : Appended (spaced ns) b d) where
      pub close_room : HasRoom (bytes_of ")\n") d
      close_room = room_next _ after_word ed

      pub printed-written : (e : Output) → Appended (bytes_of ")\n") d e → Appended (printed w ns) o e
      unfolding printed
      printed-written e ee = appended_then (room_first (bytes_of "(") _ o r) ea (appended_then word_room eb (appended_then spaced_room ed ee))

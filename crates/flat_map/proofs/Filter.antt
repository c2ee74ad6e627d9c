-- Rows picked by a question: the first that fits stands under its own key, and a loop that collects what it picks has still
-- the rest to do. Each law takes the next row off, and goes by whether it fits.
use Rattle.std.specs.Prelude.{Option, Some, None}
use Prim.Native.Nat.{ℕ, ◌+◌, ◌<◌, ◌≤◌}
use native.Mathlib.Omega.{arith}
use mathlib.Core.Bool.{Bool, true, false, cond, ◌||◌}
use mathlib.Core.List.{List, [], ◌∷◌, ◌++◌, map, append-nil, append_assoc}
use mathlib.Core.Path.{◌≡◌, refl, sym, ap, ◌∙◌, subst}
use lib.ListN.{length, set, length-append}
use Rattle.standard.specs.Ordered.{Before, Ascending, lookup, keep}
use Rattle.standard.specs.Query.{first, some_fits, change_first}
use Rattle.standard.specs.Rows.{put_back, lesser}
use Rattle.flat_map.specs.Rows.{pad}
use Rattle.flat_map.proofs.Ordered.{none-some, lookup-here, lookup-past, lookup-below, put-eq, put-gt}
use Rattle.flat_map.proofs.Query.{push-pad}
use Rattle.flat_map.proofs.Rows.{cons}
use Rattle.flat_map.proofs.Compare.{Tri, lt, eq, gt, tri}

module _ {E : Type 0} (key_of : E → ℕ) (fits : E → Bool) where
  -- a row found has a key above every key before it
  above : (k : ℕ) (xs : List E) (e : E) → Before k (map key_of xs) → Ascending key_of xs → lookup key_of (key_of e) xs ≡ Some e → k < key_of e
  above k xs e b a h = go (tri k (key_of e)) where
    go : Tri k (key_of e) → k < key_of e
    go (lt p) = p
    go (eq p) = absurd (none-some e (sym (lookup-below key_of (key_of e) xs (subst (λ (j : ℕ). Before j (map key_of xs)) p b) a) ∙ h))
    go (gt p) = absurd (none-some e (sym (lookup-below key_of (key_of e) xs (lower xs b) a) ∙ h)) where
      lower : (ys : List E) → Before k (map key_of ys) → Before (key_of e) (map key_of ys)
      lower [] q = tt
      lower (y ∷ ys) q = omega arith

  -- the first that fits is the one under its own key
  pub first-lookup : (xs : List E) (e : E) → Ascending key_of xs → first fits xs ≡ Some e → lookup key_of (key_of e) xs ≡ Some e
  unfolding first
  first-lookup [] e a h = absurd (none-some e h)
  first-lookup (x ∷ xs) e a h = go (fits x) h (λ q. first-lookup xs e a.1 q) where
    go : (b : Bool) → cond b (Some x) (first fits xs) ≡ Some e → (first fits xs ≡ Some e → lookup key_of (key_of e) xs ≡ Some e) → lookup key_of (key_of e) (x ∷ xs) ≡ Some e
    go true q ih = let s : x ≡ e = cc in lookup-here key_of (key_of e) x xs (ap key_of s) ∙ ap Some s
    go false q ih =
        let r = ih q in
        let l = above (key_of x) xs e a.0 a.1 r in
        lookup-past key_of (key_of e) x xs (λ s. omega arith) ∙ r

  -- it put back changed is the list with it changed
  pub put-back-first : (f : E → E) → ((x : E) → key_of (f x) ≡ key_of x) → (xs : List E) → Ascending key_of xs → put_back key_of f (first fits xs) xs ≡ change_first fits f xs
  unfolding first change_first
  put-back-first f same [] a = refl
  put-back-first f same (x ∷ xs) a = go (fits x) (put-back-first f same xs a.1) where
    past : (o : Option E) → first fits xs ≡ o → put_back key_of f o (x ∷ xs) ≡ x ∷ put_back key_of f o xs
    past None q = refl
    past (Some e) q = put-gt key_of (f e) x xs (subst (λ (k : ℕ). key_of x < k) (sym (same e)) (above (key_of x) xs e a.0 a.1 (first-lookup xs e a.1 q)))

    go : (b : Bool) → put_back key_of f (first fits xs) xs ≡ change_first fits f xs → put_back key_of f (cond b (Some x) (first fits xs)) (x ∷ xs) ≡ cond b (f x ∷ xs) (x ∷ change_first fits f xs)
    go true ih = put-eq key_of (f x) x xs (same x)
    go false ih = past (first fits xs) refl ∙ cons x ih

module _ {E : Type 0} (fits : E → Bool) where
  pub first_fits : (xs : List E) (e : E) → first fits xs ≡ Some e → fits e ≡ true
  unfolding first
  first_fits [] e h = absurd (none-some e h)
  first_fits (x ∷ xs) e h = go (fits x) refl h (λ q. first_fits xs e q) where
    go : (b : Bool) → fits x ≡ b → cond b (Some x) (first fits xs) ≡ Some e → (first fits xs ≡ Some e → fits e ≡ true) → fits e ≡ true
    go true t q ih = let s : x ≡ e = cc in ap fits (sym s) ∙ t
    go false t q ih = ih q

  -- one fits exactly where there is a first
  pub some-none : (xs : List E) → first fits xs ≡ None → some_fits fits xs ≡ false
  unfolding first some_fits
  some-none [] h = refl
  some-none (x ∷ xs) h = go (fits x) h (λ q. some-none xs q) where
    go : (b : Bool) → cond b (Some x) (first fits xs) ≡ None → (first fits xs ≡ None → some_fits fits xs ≡ false) → b || some_fits fits xs ≡ false
    go true q ih = absurd (none-some x (sym q))
    go false q ih = ih q

  pub some_first : (xs : List E) (e : E) → first fits xs ≡ Some e → some_fits fits xs ≡ true
  unfolding first some_fits
  some_first [] e h = absurd (none-some e h)
  some_first (x ∷ xs) e h = go (fits x) h (λ q. some_first xs e q) where
    go : (b : Bool) → cond b (Some x) (first fits xs) ≡ Some e → (first fits xs ≡ Some e → some_fits fits xs ≡ true) → b || some_fits fits xs ≡ true
    go true q ih = refl
    go false q ih = ih q

-- a loop that has passed some rows and collected, in an array of `cap` places, what it picked of them; `rest` are the rows to come
pub record Collects {E A : Type 0} (cap : ℕ) (blank : A) (f : E → A) (fits : E → Bool) (rows rest : List E) (out : List A) (n : ℕ) : Type 0 where
  pub made : List A
  pub out-is : out ≡ pad cap blank made
  pub n-is : n ≡ length made
  pub left : made ++ map f (keep fits rest) ≡ map f (keep fits rows)
  pub room : length made + length rest ≤ cap

module _ {E A : Type 0} (cap : ℕ) (blank : A) (f : E → A) (fits : E → Bool) (rows : List E) where
  pub collect-start : {out : List A} → out ≡ pad cap blank [] → length rows ≤ cap → Collects cap blank f fits rows rows out 0
  collect-start e h = record { made = []; out-is = e; n-is = refl; left = refl; room = omega arith }

  module _ {out : List A} {n : ℕ} {x : E} {rest rest2 : List E} (s : Collects cap blank f fits rows rest out n) (e : rest ≡ x ∷ rest2) where
    pub collect-room : n < cap
    collect-room = omega (arith, s.room, s.n-is, ap length e)

    pub collect-take : fits x ≡ true → Collects cap blank f fits rows rest2 (set out n (f x)) (n + 1)
    collect-take t = record {
      made = s.made ++ (f x ∷ []);
      out-is =
          (λ z. set (s.out-is z) (s.n-is z) (f x))
          ∙ push-pad cap blank (f x) s.made (omega (arith, s.room, ap length e));
      n-is = omega (arith, s.n-is, length-append s.made (f x ∷ []));
      left =
          append_assoc s.made (f x ∷ []) (map f (keep fits rest2))
          ∙ ap (λ (l : List A). s.made ++ l) (sym (ap (map f) (kept)))
          ∙ s.left;
      room = omega (arith, s.room, ap length e, length-append s.made (f x ∷ []));
    } where
      kept : keep fits rest ≡ x ∷ keep fits rest2
      kept = rw (e, t)

    pub collect-skip : fits x ≡ false → Collects cap blank f fits rows rest2 out n
    collect-skip t = record {
      made = s.made;
      out-is = s.out-is;
      n-is = s.n-is;
      left = ap (λ (l : List A). s.made ++ l) (sym (ap (map f) (past))) ∙ s.left;
      room = omega (arith, s.room, ap length e);
    } where
      past : keep fits rest ≡ keep fits rest2
      past = rw (e, t)

  module _ {out : List A} {n : ℕ} {rest : List E} (s : Collects cap blank f fits rows rest out n) (e : rest ≡ []) where
    done : s.made ≡ map f (keep fits rows)
    done = sym (append-nil s.made) ∙ ap (λ (l : List E). s.made ++ map f (keep fits l)) (sym e) ∙ s.left

    pub collect-out : out ≡ pad cap blank (map f (keep fits rows))
    collect-out = s.out-is ∙ ap (pad cap blank) done

    pub collect-count : n ≡ length (map f (keep fits rows))
    collect-count = s.n-is ∙ ap length done

-- the least of what is passed and of what is to come
pub lesser-assoc : (a b c : Option ℕ) → lesser (lesser a b) c ≡ lesser a (lesser b c)
lesser-assoc None b c = refl
lesser-assoc (Some m) None c = refl
lesser-assoc (Some m) (Some n) None = refl
lesser-assoc (Some m) (Some n) (Some k) = ap Some (omega arith)

pub lesser-none : (a : Option ℕ) → lesser a None ≡ a
lesser-none None = refl
lesser-none (Some m) = refl

-- The order of texts.
use Rattle.std.proofs.Common.{◌≡◌, ◌⊎◌, inl, inr, ℕ, Bool, true, false, List, [], ◌∷◌, ◌++◌, length, take, refl, sym, ap, ap₂, ◌∙◌, subst, true≢false, Ordering, Less, Equal, Greater, nat_cmp, is_gt, append-nil}
use Rattle.std.specs.Ordering.{ordering_reverse, ordering_then, is_lt}
use Rattle.std.specs.Cmp.Lexicographic.{slice_cmp}
use Rattle.std.specs.FinMap.{slice_cmp-IsAntisymmetric, nat_cmp-IsAntisymmetric}
use Rattle.std.proofs.lemmas.Cmp.{nat_cmp_total, nat_list_cmp_total, ranked, upto, tied_itself}
use Rattle.life_writer.specs.Lesser.{IsUpTo}

pub up-to-itself : (a : List ℕ) → IsUpTo a a
up-to-itself a = record { order = ap is_gt (tied_itself nat_list_cmp_total a) }

pub up-to-on : (a b c : List ℕ) → IsUpTo a b → IsUpTo b c → IsUpTo a c
up-to-on a b c h k = record { order = upto nat_list_cmp_total a b c h.order k.order }

not-both-greater : (o : Ordering) → is_gt o ≡ true → is_gt (ordering_reverse o) ≡ false
not-both-greater Less e = absurd (true≢false (sym e))
not-both-greater Equal e = absurd (true≢false (sym e))
not-both-greater Greater e = refl

-- the lesser of two is no greater
pub up-to-less : (a b : List ℕ) → is_gt (slice_cmp nat_cmp a b) ≡ true → IsUpTo b a
up-to-less a b e = record { order = ap is_gt (nat_list_cmp_total.antisymm b a) ∙ not-both-greater _ e }

pub either-way : (a b : List ℕ) → IsUpTo a b ⊎ IsUpTo b a
either-way a b = go (is_gt (slice_cmp nat_cmp a b)) refl
  where
    go : (g : Bool) → is_gt (slice_cmp nat_cmp a b) ≡ g → IsUpTo a b ⊎ IsUpTo b a
    go false e = inl (record { order = e })
    go true e = inr (up-to-less a b e)

equal-of-both : (o : Ordering) → is_gt o ≡ false → is_gt (ordering_reverse o) ≡ false → o ≡ Equal
equal-of-both Less e f = absurd (true≢false f)
equal-of-both Equal e f = refl
equal-of-both Greater e f = absurd (true≢false e)

pub up-to-both : (a b : List ℕ) → IsUpTo a b → IsUpTo b a → a ≡ b
up-to-both a b h k =
    slice_cmp-IsAntisymmetric nat_cmp-IsAntisymmetric a b
    (equal-of-both _ h.order (ap is_gt (sym (nat_list_cmp_total.antisymm b a)) ∙ k.order))

-- ---- texts of which one begins with the other

pub same-prefix : (prefix a b : List ℕ) → slice_cmp nat_cmp (prefix ++ a) (prefix ++ b) ≡ slice_cmp nat_cmp a b
same-prefix [] a b = refl
same-prefix (x ∷ prefix) a b =
    ap (λ (o : Ordering). ordering_then o (slice_cmp nat_cmp (prefix ++ a) (prefix ++ b))) (tied_itself nat_cmp_total x) ∙ same-prefix prefix a b

pub up-to-behind : (prefix a b : List ℕ) → IsUpTo a b → IsUpTo (prefix ++ a) (prefix ++ b)
up-to-behind prefix a b h = record { order = ap is_gt (same-prefix prefix a b) ∙ h.order }

up-to-any : (more : List ℕ) → IsUpTo [] more
up-to-any [] = record { order = refl }
up-to-any (x ∷ more) = record { order = refl }

-- a text with more after it is no less
pub up-to-longer : (a more : List ℕ) → IsUpTo a (a ++ more)
up-to-longer a more = subst (λ (t : List ℕ). IsUpTo t (a ++ more)) (append-nil a) (up-to-behind a [] more (up-to-any more))

-- a text that is less, but that the other doesn't begin with, is less with anything after it
less-on : (a b more : List ℕ) → ¬ (take (length a) b ≡ a) → slice_cmp nat_cmp a b ≡ Less → slice_cmp nat_cmp (a ++ more) b ≡ Less
less-on [] b more other less = absurd (other refl)
less-on (x ∷ a) [] more other less = absurd (true≢false (ap is_gt less))
less-on (x ∷ a) (y ∷ b) more other less = go (nat_cmp x y) refl (less-on a b more)
  where
    go : (o : Ordering) → nat_cmp x y ≡ o
        → (¬ (take (length a) b ≡ a) → slice_cmp nat_cmp a b ≡ Less → slice_cmp nat_cmp (a ++ more) b ≡ Less)
        → slice_cmp nat_cmp ((x ∷ a) ++ more) (y ∷ b) ≡ Less
    go Less e on = ap (λ (o : Ordering). ordering_then o (slice_cmp nat_cmp (a ++ more) b)) e
    go Equal e on =
        let same : x ≡ y = ranked x y Equal (sym e) in
        ap (λ (o : Ordering). ordering_then o (slice_cmp nat_cmp (a ++ more) b)) e
        ∙ on (λ h. other (ap₂ (λ (z : ℕ) (t : List ℕ). z ∷ t) (sym same) h))
        (sym (ap (λ (o : Ordering). ordering_then o (slice_cmp nat_cmp a b)) e) ∙ less)
    go Greater e on = absurd (true≢false (ap is_gt (sym (ap (λ (o : Ordering). ordering_then o (slice_cmp nat_cmp a b)) e) ∙ less)))

less-of-test : (o : Ordering) → is_lt o ≡ true → o ≡ Less
less-of-test Less e = refl
less-of-test Equal e = absurd (true≢false (sym e))
less-of-test Greater e = absurd (true≢false (sym e))

pub new-is-lesser : (a b more : List ℕ) → ¬ (take (length a) b ≡ a) → is_lt (slice_cmp nat_cmp a b) ≡ true → IsUpTo (a ++ more) b
new-is-lesser a b more other less = record { order = ap is_gt (less-on a b more other (less-of-test _ less)) }

not-less : (o : Ordering) → is_lt o ≡ false → is_gt (ordering_reverse o) ≡ false
not-less Less e = absurd (true≢false e)
not-less Equal e = refl
not-less Greater e = refl

pub old-is-lesser : (a b more : List ℕ) → is_lt (slice_cmp nat_cmp a b) ≡ false → IsUpTo b (a ++ more)
old-is-lesser a b more least =
    up-to-on b a (a ++ more) (record { order = ap is_gt (nat_list_cmp_total.antisymm b a) ∙ not-less _ least }) (up-to-longer a more)

-- Commands with a dimension and nothing else.
use Rattle.std.proofs.Common.{◌≡◌, ℕ, List, [], ◌∷◌, inl, inr, refl, sym, subst}
use Rattle.lt_words.specs.declared.words.Kind.{Kind}
use Rattle.lt_words.specs.declared.words.Kind.TheVariants as kind
use Rattle.lt_words.specs.Parts.{IsAlone}
use Rattle.lt_words.proofs.Tails.{IsEnd}

pub alone_not_run : (k : Kind) → IsAlone k → k ≡ kind.Run → ⊥
alone_not_run k (inl e) r = cc
alone_not_run k (inr (inl e)) r = cc
alone_not_run k (inr (inr (inl e))) r = cc
alone_not_run k (inr (inr (inr e))) r = cc

-- nothing stands behind the dimension
pub alone_end : (k : Kind) (d : ℕ) → IsAlone k → IsEnd d k []
alone_end k d (inl e) = subst (λ l. IsEnd d l []) (sym e) refl
alone_end k d (inr (inl e)) = subst (λ l. IsEnd d l []) (sym e) refl
alone_end k d (inr (inr (inl e))) = subst (λ l. IsEnd d l []) (sym e) refl
alone_end k d (inr (inr (inr e))) = subst (λ l. IsEnd d l []) (sym e) refl

pub alone_no_more : (k : Kind) (d : ℕ) (v : List ℕ) (rest : List (List ℕ)) → IsAlone k → IsEnd d k (v ∷ rest) → ⊥
alone_no_more k d v rest (inl e) t = let f = subst (λ l. IsEnd d l (v ∷ rest)) e t in absurd (cc)
alone_no_more k d v rest (inr (inl e)) t = let f = subst (λ l. IsEnd d l (v ∷ rest)) e t in absurd (cc)
alone_no_more k d v rest (inr (inr (inl e))) t = let f = subst (λ l. IsEnd d l (v ∷ rest)) e t in absurd (cc)
alone_no_more k d v rest (inr (inr (inr e))) t = let f = subst (λ l. IsEnd d l (v ∷ rest)) e t in absurd (cc)

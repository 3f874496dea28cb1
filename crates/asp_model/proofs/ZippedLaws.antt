-- Two lists place by place.
use Rattle.std.proofs.Common.{◌≡◌, ℕ, zero, suc, ◌<◌, List, [], ◌∷◌, ◌++◌, length, get_or, refl, ap, arith}
use Rattle.asp_model.specs.Stored.{zipped, AreZipped}

pub length-zipped : {M R X : Type 0} (P : M → Type 0) (f : M → R → X) (ms : List M) (rs : List R) → AreZipped P ms rs → length (zipped f ms rs) ≡ length ms
length-zipped P f [] rs s = refl
length-zipped P f (m ∷ ms) [] s = absurd s
length-zipped P f (m ∷ ms) (r ∷ rs) s = ap suc (length-zipped P f ms rs s.1)

pub length-second : {M R : Type 0} (P : M → Type 0) (ms : List M) (rs : List R) → AreZipped P ms rs → length rs ≡ length ms
length-second P [] [] s = refl
length-second P [] (r ∷ rs) s = absurd s
length-second P (m ∷ ms) [] s = absurd s
length-second P (m ∷ ms) (r ∷ rs) s = ap suc (length-second P ms rs s.1)

pub first_at : {M R : Type 0} (P : M → Type 0) (ms : List M) (rs : List R) (i : ℕ) (m : M) → AreZipped P ms rs → i < length ms → P (get_or ms i m)
first_at P [] rs i m s lt = absurd (omega arith)
first_at P (n ∷ ms) [] i m s lt = absurd s
first_at P (n ∷ ms) (r ∷ rs) zero m s lt = s.0
first_at P (n ∷ ms) (r ∷ rs) (suc i) m s lt = first_at P ms rs i m s.1 (omega arith)

pub zipped-at : {M R X : Type 0} (P : M → Type 0) (f : M → R → X) (ms : List M) (rs : List R) (i : ℕ) (m : M) (r : R) (x : X) → AreZipped P ms rs →
    i < length ms → get_or (zipped f ms rs) i x ≡ f (get_or ms i m) (get_or rs i r)
zipped-at P f [] rs i m r x s lt = absurd (omega arith)
zipped-at P f (n ∷ ms) [] i m r x s lt = absurd s
zipped-at P f (n ∷ ms) (q ∷ rs) zero m r x s lt = refl
zipped-at P f (n ∷ ms) (q ∷ rs) (suc i) m r x s lt = zipped-at P f ms rs i m r x s.1 (omega arith)

pub zipped-push : {M R X : Type 0} (P : M → Type 0) (f : M → R → X) (ms : List M) (rs : List R) (m : M) (r : R) → AreZipped P ms rs →
    zipped f (ms ++ m ∷ []) (rs ++ r ∷ []) ≡ zipped f ms rs ++ f m r ∷ []
zipped-push P f [] [] m r s = refl
zipped-push P f [] (q ∷ rs) m r s = absurd s
zipped-push P f (n ∷ ms) [] m r s = absurd s
zipped-push P f (n ∷ ms) (q ∷ rs) m r s = ap (λ xs. f n q ∷ xs) (zipped-push P f ms rs m r s.1)

pub AreZipped-push : {M R : Type 0} (P : M → Type 0) (ms : List M) (rs : List R) (m : M) (r : R) → AreZipped P ms rs → P m → AreZipped P (ms ++ m ∷ []) (rs ++ r ∷ [])
AreZipped-push P [] [] m r s one = (one, tt)
AreZipped-push P [] (q ∷ rs) m r s one = absurd s
AreZipped-push P (n ∷ ms) [] m r s one = absurd s
AreZipped-push P (n ∷ ms) (q ∷ rs) m r s one = (s.0, AreZipped-push P ms rs m r s.1 one)

pub zipped-same : {M R X : Type 0} (P : M → Type 0) (f g : M → R → X) (ms : List M) (rs : List R) → ((m : M) (r : R) → P m → g m r ≡ f m r) → AreZipped P ms rs → zipped g ms rs ≡ zipped f ms rs
zipped-same P f g [] rs same s = refl
zipped-same P f g (m ∷ ms) [] same s = absurd s
zipped-same P f g (m ∷ ms) (r ∷ rs) same s =
    let first = same m r s.0 in
    let rest = zipped-same P f g ms rs same s.1 in
    λ i. first i ∷ rest i

pub AreZipped-weaker : {M R : Type 0} (P Q : M → Type 0) (ms : List M) (rs : List R) → ((m : M) → P m → Q m) → AreZipped P ms rs → AreZipped Q ms rs
AreZipped-weaker P Q [] [] weaker s = tt
AreZipped-weaker P Q [] (r ∷ rs) weaker s = absurd s
AreZipped-weaker P Q (m ∷ ms) [] weaker s = absurd s
AreZipped-weaker P Q (m ∷ ms) (r ∷ rs) weaker s = (weaker m s.0, AreZipped-weaker P Q ms rs weaker s.1)

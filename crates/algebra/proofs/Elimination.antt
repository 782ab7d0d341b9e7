-- Row operations on systems of equations over any commutative ring. Assumes nothing.
use Rattle.std.proofs.Common.{◌≡◌, ℕ, suc, ◌+◌, ◌<◌, ◌≤◌, ◌≢◌, sym, refl, ap, ◌∙◌, ap₂, arith}
use native.Mathlib.Decide.{dec_lt, ℕ_discrete}
use Rattle.algebra.specs.Commutative.{Commutative, total, apply, times}
use Rattle.algebra.proofs.Laws.{add_mul, one_mul, mul_nil, nil_mul, mul_neg}
use Rattle.algebra.proofs.Totals.{total_ext, total_add, total_split, total_mul, times_apply}
use Rattle.algebra.proofs.Places.{total_none, total_one, total_two, difference, apply_minus}

-- one of two, by a decision
pub pick : {A P : Type 0} → Dec P → A → A → A
pick (yes p) a b = a
pick (no p) a b = b

pub pick_yes : {A P : Type 0} (d : Dec P) (a b : A) → P → pick d a b ≡ a
unfolding pick
pick_yes (yes p) a b h = refl
pick_yes (no p) a b h = absurd (p h)

pub pick_no : {A P : Type 0} (d : Dec P) (a b : A) → (P → ⊥) → pick d a b ≡ b
unfolding pick
pick_no (yes p) a b h = absurd (h p)
pick_no (no p) a b h = refl

module _ {A : Type 0} (S : Commutative A) where
  abbrev pub Kernel : ℕ → ℕ → (ℕ → ℕ → A) → (ℕ → A) → Type 0
  Kernel n w M z = (i : ℕ) → i < n → apply S w M z i ≡ S.nil

  pub apply_same : (w : ℕ) (M B : ℕ → ℕ → A) (z : ℕ → A) (i k : ℕ) → ((j : ℕ) → j < w → B i j ≡ M k j) → apply S w B z i ≡ apply S w M z k
  unfolding apply
  apply_same w M B z i k h = total_ext S w _ _ (λ j l. ap (λ t. S.mul t (z j)) (h j l))

  pub apply_scaled : (w : ℕ) (M B : ℕ → ℕ → A) (z : ℕ → A) (u : A) (i k : ℕ) → ((j : ℕ) → j < w → B i j ≡ S.mul u (M k j)) → apply S w B z i ≡ S.mul u (apply S w M z k)
  unfolding apply
  apply_scaled w M B z u i k h =
      total_ext S w _ _ (λ j l. ap (λ t. S.mul t (z j)) (h j l) ∙ S.mul_assoc u (M k j) (z j)) ∙ total_mul S w u (λ j. S.mul (M k j) (z j))

  pub apply_added : (w : ℕ) (M B : ℕ → ℕ → A) (z : ℕ → A) (a : A) (i p : ℕ) → ((j : ℕ) → j < w → B i j ≡ S.add (M i j) (S.mul a (M p j))) → apply S w B z i ≡ S.add (apply S w M z i) (S.mul a (apply S w M z p))
  unfolding apply
  apply_added w M B z a i p h =
      total_ext S w _ _ (λ j l. ap (λ t. S.mul t (z j)) (h j l) ∙ add_mul S (M i j) (S.mul a (M p j)) (z j) ∙ ap (S.add (S.mul (M i j) (z j))) (S.mul_assoc a (M p j) (z j)))
      ∙ total_add S w (λ j. S.mul (M i j) (z j)) (λ j. S.mul a (S.mul (M p j) (z j)))
      ∙ ap (S.add (total S w (λ j. S.mul (M i j) (z j)))) (total_mul S w a (λ j. S.mul (M p j) (z j)))

-- After c columns: M and B have the same solutions of M z = 0, and the first c columns of B are those of the unit matrix.
pub record Going {A : Type 0} (S : Commutative A) (n w c : ℕ) (M B : ℕ → ℕ → A) : Type 0 where
  pub forth : (z : ℕ → A) → Kernel S n w M z → Kernel S n w B z
  pub back : (z : ℕ → A) → Kernel S n w B z → Kernel S n w M z
  pub diagonal : (j : ℕ) → j < c → B j j ≡ S.one
  pub off : (i j : ℕ) → i < n → j < c → (i ≡ j → ⊥) → B i j ≡ S.nil

module _ {A : Type 0} (S : Commutative A) (n w : ℕ) where
  -- what is nil in row c and in the others
  row_nil : (c : ℕ) (f : ℕ → A) → f c ≡ S.nil → (i : ℕ) → ((i ≡ c → ⊥) → f i ≡ S.nil) → f i ≡ S.nil
  row_nil c f h i k = elim (ℕ_discrete i c) [ yes e ↦ ap f e ∙ h | no e ↦ k e ]

  pub going_none : (M : ℕ → ℕ → A) → Going S n w 0 M M
  going_none M = record { forth = λ z k. k; back = λ z k. k; diagonal = λ j l. absurd (omega arith); off = λ i j l g h. absurd (omega arith) }

  -- rows c and p change places
  pub record Swap (c p : ℕ) (B D : ℕ → ℕ → A) : Type 0 where
    pub one : (j : ℕ) → j < w → D p j ≡ B c j
    pub two : (j : ℕ) → j < w → D c j ≡ B p j
    pub rest : (i j : ℕ) → i < n → j < w → (i ≡ c → ⊥) → (i ≡ p → ⊥) → D i j ≡ B i j

  swap_back : (c p : ℕ) (B D : ℕ → ℕ → A) → Swap c p B D → Swap c p D B
  swap_back c p B D W = record { one = λ j l. sym (W.two j l); two = λ j l. sym (W.one j l); rest = λ i j l m g h. sym (W.rest i j l m g h) }

  swap_kernel : (c p : ℕ) (B D : ℕ → ℕ → A) → c < n → p < n → Swap c p B D → (z : ℕ → A) → Kernel S n w B z → Kernel S n w D z
  swap_kernel c p B D lc lp W z K i l =
      row_nil c (apply S w D z) (apply_same S w B D z c p W.two ∙ K p lp) i (λ e.
      row_nil p (apply S w D z) (apply_same S w B D z p c W.one ∙ K c lc) i (λ g. apply_same S w B D z i i (λ j m. W.rest i j l m e g) ∙ K i l))

  pub going_swap : (c p : ℕ) (M B D : ℕ → ℕ → A) → c < n → c < w → c ≤ p → p < n → Swap c p B D → Going S n w c M B → Going S n w c M D
  going_swap c p M B D lc lw lo lp W G = record {
    forth = λ z K. swap_kernel c p B D lc lp W z (G.forth z K);
    back = λ z K. G.back z (swap_kernel c p D B lc lp (swap_back c p B D W) z K);
    diagonal = λ j l. W.rest j j (omega arith) (omega arith) (omega arith) (omega arith) ∙ G.diagonal j l;
    off = λ i j l m h.
        row_nil c (λ t. D t j) (W.two j (omega arith) ∙ G.off p j lp m (omega arith)) i (λ e.
        row_nil p (λ t. D t j) (W.one j (omega arith) ∙ G.off c j lc m (omega arith)) i (λ g. W.rest i j l (omega arith) e g ∙ G.off i j l m h));
  }

  -- row c is multiplied by a unit u, and to each other row a multiple of row c is added
  going_rows : (c : ℕ) (u v : A) (a : ℕ → A) (M B D : ℕ → ℕ → A) → c < n → c < w → S.mul u v ≡ S.one → ((j : ℕ) → j < w → D c j ≡ S.mul u (B c j)) → ((i j : ℕ) → i < n → j < w → (i ≡ c → ⊥) → D i j ≡ S.add (B i j) (S.mul (a i) (B c j))) → Going S n w c M B → Going S n w c M D
  going_rows c u v a M B D lc lw e here rest G = record {
    forth = λ z K. forth z (G.forth z K);
    back = λ z K. G.back z (back z K);
    diagonal = λ j l. rest j j (omega arith) (omega arith) (omega arith) ∙ plus_nil _ _ _ (G.off c j lc l (omega arith)) ∙ G.diagonal j l;
    off = λ i j l m h.
        let k = G.off c j lc m (omega arith) in
        row_nil c (λ t. D t j) (here j (omega arith) ∙ ap (S.mul u) k ∙ mul_nil S u) i (λ g. rest i j l (omega arith) g ∙ plus_nil _ _ _ k ∙ G.off i j l m h);
  }
    where
      plus_nil : (x b y : A) → y ≡ S.nil → S.add x (S.mul b y) ≡ x
      plus_nil x b y h = ap (λ t. S.add x (S.mul b t)) h ∙ ap (S.add x) (mul_nil S b) ∙ S.add_nil x

      forth : (z : ℕ → A) → Kernel S n w B z → Kernel S n w D z
      forth z K i l =
          row_nil c (apply S w D z) (apply_scaled S w B D z u c c here ∙ ap (S.mul u) (K c lc) ∙ mul_nil S u) i (λ g.
          apply_added S w B D z (a i) i c (λ j m. rest i j l m g) ∙ plus_nil _ _ _ (K c lc) ∙ K i l)

      back : (z : ℕ → A) → Kernel S n w D z → Kernel S n w B z
      back z K i l =
          let x = apply S w B z c in
          let k : x ≡ S.nil =
          sym (one_mul S x) ∙ ap (λ t. S.mul t x) (sym e ∙ S.mul_comm u v) ∙ S.mul_assoc v u x
          ∙ ap (S.mul v) (sym (apply_scaled S w B D z u c c here) ∙ K c lc) ∙ mul_nil S v in
          row_nil c (apply S w B z) k i (λ g. sym (apply_added S w B D z (a i) i c (λ j m. rest i j l m g) ∙ plus_nil _ _ _ k) ∙ K i l)

  -- row c times u
  pub record Scale (c : ℕ) (u : A) (B D : ℕ → ℕ → A) : Type 0 where
    pub here : (j : ℕ) → j < w → D c j ≡ S.mul u (B c j)
    pub rest : (i j : ℕ) → i < n → j < w → (i ≡ c → ⊥) → D i j ≡ B i j

  pub going_scale : (c : ℕ) (u v : A) (M B D : ℕ → ℕ → A) → c < n → c < w → S.mul u v ≡ S.one → Scale c u B D → Going S n w c M B → Going S n w c M D
  going_scale c u v M B D lc lw e W =
      going_rows c u v (λ _. S.nil) M B D lc lw e W.here (λ i j l m g. W.rest i j l m g ∙ sym (ap (S.add (B i j)) (nil_mul S (B c j)) ∙ S.add_nil (B i j)))

  -- from each row but c its entry in column c times row c is taken
  pub record Clear (c : ℕ) (B D : ℕ → ℕ → A) : Type 0 where
    pub here : (j : ℕ) → j < w → D c j ≡ B c j
    pub rest : (i j : ℕ) → i < n → j < w → (i ≡ c → ⊥) → D i j ≡ S.add (B i j) (S.mul (S.neg (B i c)) (B c j))

  pub going_clear : (c : ℕ) (M B D : ℕ → ℕ → A) → c < n → c < w → B c c ≡ S.one → Clear c B D → Going S n w c M B → Going S n w (suc c) M D
  going_clear c M B D lc lw e W G = record {
    forth = K.forth;
    back = K.back;
    diagonal = λ j l.
        elim (ℕ_discrete j c) [
          | yes g ↦ ap (λ t. D t t) g ∙ W.here c lw ∙ e
          | no g ↦ let ne : j ≢ c = g in K.diagonal j (omega arith)
        ];
    off = λ i j l m h.
        elim (ℕ_discrete j c) [
          | yes g ↦
              ap (D i) g ∙ W.rest i c l lw (λ q. h (q ∙ sym g)) ∙ ap (λ t. S.add (B i c) (S.mul (S.neg (B i c)) t)) e
              ∙ ap (S.add (B i c)) (S.mul_one (S.neg (B i c))) ∙ S.add_neg (B i c)
          | no g ↦ let ne : j ≢ c = g in K.off i j l (omega arith) h
        ];
  }
    where
      K : Going S n w c M D
      K = going_rows c S.one S.one (λ i. S.neg (B i c)) M B D lc lw (S.mul_one S.one) (λ j l. W.here j l ∙ sym (one_mul S (B c j))) W.rest G

  -- column d of B, made from the first c, with - 1 at d
  unfoldable pub relation : ℕ → ℕ → (ℕ → ℕ → A) → ℕ → A
  relation c d B j = pick (dec_lt j c) (B j d) (pick (ℕ_discrete j d) (S.neg S.one) S.nil)

  pub relation_low : (c d : ℕ) (B : ℕ → ℕ → A) (j : ℕ) → j < c → relation c d B j ≡ B j d
  unfolding relation
  relation_low c d B j l = pick_yes (dec_lt j c) _ _ l

  pub relation_at : (c d : ℕ) (B : ℕ → ℕ → A) → c ≤ d → relation c d B d ≡ S.neg S.one
  unfolding relation
  relation_at c d B l = pick_no (dec_lt d c) _ _ (λ h. omega arith) ∙ pick_yes (ℕ_discrete d d) _ _ refl

  pub relation_else : (c d : ℕ) (B : ℕ → ℕ → A) (j : ℕ) → c ≤ j → (j ≡ d → ⊥) → relation c d B j ≡ S.nil
  unfolding relation
  relation_else c d B j l h = pick_no (dec_lt j c) _ _ (λ g. omega arith) ∙ pick_no (ℕ_discrete j d) _ _ h

  pub relation_kernel : (c d : ℕ) (M B : ℕ → ℕ → A) → c ≤ d → d < w → ((i : ℕ) → i < n → c ≤ i → B i d ≡ S.nil) → Going S n w c M B → Kernel S n w M (relation c d B)
  unfolding apply
  relation_kernel c d M B lo hi h G = G.back (relation c d B) kernel
    where
      left : (i j : ℕ) → B i j ≡ S.nil → S.mul (B i j) (relation c d B j) ≡ S.nil
      left i j e = ap (λ t. S.mul t (relation c d B j)) e ∙ nil_mul S _

      right : (i j : ℕ) → relation c d B j ≡ S.nil → S.mul (B i j) (relation c d B j) ≡ S.nil
      right i j e = ap (S.mul (B i j)) e ∙ mul_nil S _

      kernel : Kernel S n w B (relation c d B)
      kernel i l =
          elim (dec_lt i c) [
            | yes g ↦
                total_two S w (λ j. S.mul (B i j) (relation c d B j)) i d (omega arith) hi (λ j m p q.
                elim (dec_lt j c) [
                  | yes s ↦ left i j (G.off i j l s (λ t. p (sym t)))
                  | no s ↦ right i j (relation_else c d B j (omega arith) q)
                ])
                ∙ ap₂ S.add (ap₂ S.mul (G.diagonal i g) (relation_low c d B i g) ∙ one_mul S (B i d)) (ap (S.mul (B i d)) (relation_at c d B lo) ∙ mul_neg S (B i d) S.one ∙ ap S.neg (S.mul_one (B i d)))
                ∙ S.add_neg (B i d)
            | no g ↦
                total_none S w (λ j. S.mul (B i j) (relation c d B j)) (λ j m.
                elim (dec_lt j c) [
                  | yes s ↦ left i j (G.off i j l s (omega arith))
                  | no s ↦ elim (ℕ_discrete j d) [
                    | yes q ↦ left i j (ap (B i) q ∙ h i l (omega arith))
                    | no q ↦ right i j (relation_else c d B j (omega arith) q)
                  ]
                ])
          ]

  pub only_nil : (c : ℕ) (M B : ℕ → ℕ → A) → c ≤ n → c ≤ w → Going S n w c M B → (x : ℕ → A) → ((j : ℕ) → c ≤ j → x j ≡ S.nil) → Kernel S n w M x → (j : ℕ) → x j ≡ S.nil
  unfolding apply
  only_nil c M B ln lw G x p K j =
      elim (dec_lt j c) [
        | no g ↦ p j (omega arith)
        | yes g ↦
            sym (one_mul S (x j)) ∙ ap (λ t. S.mul t (x j)) (sym (G.diagonal j g))
            ∙ sym (total_one S w (λ k. S.mul (B j k) (x k)) j (omega arith) (λ k m q.
            elim (dec_lt k c) [
              | yes s ↦ ap (λ t. S.mul t (x k)) (G.off j k (omega arith) s (λ t. q (sym t))) ∙ nil_mul S (x k)
              | no s ↦ ap (S.mul (B j k)) (p k (omega arith)) ∙ mul_nil S (B j k)
            ]))
            ∙ G.forth x K j (omega arith)
      ]

module _ {A : Type 0} (S : Commutative A) where
  -- equation i at column k of Y with - 1 at n + k
  relation_sum : (n m k : ℕ) (M Y : ℕ → ℕ → A) (i : ℕ) → k < m → apply S (n + m) M (relation S n (n + m) n (n + k) Y) i ≡ S.add (total S n (λ j. S.mul (M i j) (Y j (n + k)))) (S.neg (M i (n + k)))
  unfolding apply
  relation_sum n m k M Y i g =
      let w = n + m in
      let f : ℕ → A = λ j. S.mul (M i j) (relation S n w n (n + k) Y j) in
      let tail : total S m (λ t. f (n + t)) ≡ S.neg (M i (n + k)) =
      total_one S m (λ t. f (n + t)) k g (λ t p q. ap (S.mul (M i (n + t))) (relation_else S n w n (n + k) Y (n + t) (omega arith) (λ e. q (omega arith))) ∙ mul_nil S _)
      ∙ ap (S.mul (M i (n + k))) (relation_at S n w n (n + k) Y (omega arith)) ∙ mul_neg S (M i (n + k)) S.one ∙ ap S.neg (S.mul_one (M i (n + k))) in
      total_split S n m f ∙ ap₂ S.add (total_ext S n _ _ (λ j p. ap (S.mul (M i j)) (relation_low S n w n (n + k) Y j p))) tail

  -- where the left columns of B are all those of the unit matrix, its right columns solve
  pub solution : (n m : ℕ) (M B : ℕ → ℕ → A) → Going S n (n + m) n M B → (i k : ℕ) → i < n → k < m → total S n (λ j. S.mul (M i j) (B j (n + k))) ≡ M i (n + k)
  solution n m M B G i k l g =
      let K : Kernel S n (n + m) M (relation S n (n + m) n (n + k) B) = relation_kernel S n (n + m) n (n + k) M B (omega arith) (omega arith) (λ i p q. absurd (omega arith)) G in
      difference S _ _ (sym (relation_sum n m k M B i g) ∙ K i l)

  -- and nothing else does
  pub solution_only : (n m : ℕ) (M B : ℕ → ℕ → A) → Going S n (n + m) n M B → (y : ℕ → A) (k : ℕ) → k < m → ((i : ℕ) → i < n → total S n (λ j. S.mul (M i j) (y j)) ≡ M i (n + k)) → (j : ℕ) → j < n → y j ≡ B j (n + k)
  solution_only n m M B G y k g h j l =
      let Y : ℕ → ℕ → A = λ j t. y j in
      let z : ℕ → A = relation S n (n + m) n (n + k) Y in
      let K : Kernel S n (n + m) M z = λ i p. relation_sum n m k M Y i g ∙ ap (λ t. S.add t (S.neg (M i (n + k)))) (h i p) ∙ S.add_neg (M i (n + k)) in
      sym (one_mul S (y j)) ∙ ap (λ t. S.mul t (y j)) (sym (G.diagonal j l))
      ∙ sym (total_one S n (λ t. S.mul (B j t) (y t)) j l (λ t p q. ap (λ s. S.mul s (y t)) (G.off j t l p (λ e. q (sym e))) ∙ nil_mul S (y t)))
      ∙ difference S _ _ (sym (relation_sum n m k B Y j g) ∙ G.forth z K j l)

  -- a matrix that takes nothing but nil to nil takes no two vectors to one
  pub injective : (n : ℕ) (M : ℕ → ℕ → A) → ((x : ℕ → A) → Kernel S n n M x → (j : ℕ) → j < n → x j ≡ S.nil) → (y z : ℕ → A) → ((i : ℕ) → i < n → apply S n M y i ≡ apply S n M z i) → (j : ℕ) → j < n → y j ≡ z j
  injective n M r y z h j l =
      difference S _ _ (r (λ k. S.add (y k) (S.neg (z k))) (λ i g. apply_minus S n M y z i ∙ ap (λ t. S.add t (S.neg (apply S n M z i))) (h i g) ∙ S.add_neg _) j l)

  -- where M X = 1 and M takes nothing but nil to nil, X M = 1 too
  pub both_sides : (n : ℕ) (M X U : ℕ → ℕ → A) → ((i : ℕ) → U i i ≡ S.one) → ((i j : ℕ) → (i ≡ j → ⊥) → U i j ≡ S.nil) → ((x : ℕ → A) → Kernel S n n M x → (j : ℕ) → j < n → x j ≡ S.nil) → ((i j : ℕ) → i < n → j < n → times S n M X i j ≡ U i j) → (i j : ℕ) → i < n → j < n → times S n X M i j ≡ U i j
  unfolding apply times
  both_sides n M X U d o r e i k l m = injective n M r (λ j. times S n X M j k) (λ j. U j k) (λ i g. one i g ∙ sym (two i)) i l
    where
      one : (i : ℕ) → i < n → apply S n M (λ j. times S n X M j k) i ≡ M i k
      one i g =
          sym (times_apply S n M X (λ t. M t k) i)
          ∙ total_ext S n _ _ (λ j h. ap (λ t. S.mul t (M j k)) (e i j g h))
          ∙ total_one S n (λ j. S.mul (U i j) (M j k)) i g (λ j h q. ap (λ t. S.mul t (M j k)) (o i j (λ s. q (sym s))) ∙ nil_mul S (M j k))
          ∙ ap (λ t. S.mul t (M i k)) (d i) ∙ one_mul S (M i k)

      two : (i : ℕ) → apply S n M (λ j. U j k) i ≡ M i k
      two i =
          total_one S n (λ j. S.mul (M i j) (U j k)) k m (λ j h q. ap (S.mul (M i j)) (o j k q) ∙ mul_nil S (M i j))
          ∙ ap (S.mul (M i k)) (d k) ∙ S.mul_one (M i k)

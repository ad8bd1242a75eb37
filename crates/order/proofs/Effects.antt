-- What the small changes do to what has been said, and to the order at the halls.
use Rattle.std.proofs.Common.{◌≡◌, ℕ, ◌<◌, ◌≤◌, Bool, true, false, eqb, ◌⊎◌, List, ◌∷◌, length, get_or, set, Some, sym, refl, ap, ◌∙◌, subst, inl, inr, arith, get_or-set_other, get_or-set_same}
use mathlib.Core.Path.{fun_ext}
use Rattle.book.proofs.Apart.{apart_sym, apart_pass}
use Rattle.book.specs.Apart.{Apart}
use Rattle.book.specs.Model.{Page, Model, Lawful}
use Rattle.congress.specs.Queue.{before}
use Rattle.congress.specs.declared.tables.Entry.{Entry}
use Rattle.order.proofs.Invariant.{Saying, silent, agreed, denied, Sayings, Meant, Genuine, AgreedBy, Topped, Stamped, ToldTrue, Heard, Holds, Ordered, DoneRight}
use Rattle.order.proofs.Pages.{put, put_at, put_here, put_there}
use Rattle.order.proofs.Plain.{AfterOrApart, one_more, in_at_hall}
use Rattle.order.specs.History.{Issued, Fallen, issue_of}
use Rattle.order.specs.Plain.{Part, at_hall, PlainOrder}
use Rattle.order.specs.Promises.{◌∈◌}
use Rattle.records.specs.Answers.{well_done}
use Rattle.records.specs.Transactions.{console, sequence}
use Rattle.records.specs.declared.Operation.{Operation}
use Rattle.records.specs.declared.classes.Class.TheVariants.{Coordinated}
use Rattle.records.specs.declared.messages.Message.{Message}
use Rattle.records.specs.declared.messages.Message.TheVariants.{Request as request, Vote as vote, Reply as reply}
use Rattle.std.proofs.lemmas.Bool.{cond_both, eqb-true, eqb-false, cases_eq}
use Rattle.std.proofs.lemmas.Bool.Decides.{nat_tests}

-- Tables seen as functions

pub view_put : {X A : Type 0} (f : X → A) (d : X) (xs : List X) (h : ℕ) (x : X) → h < length xs
    → (λ (k : ℕ). f (get_or (set xs h x) k d)) ≡ put (λ (k : ℕ). f (get_or xs k d)) h (f x)
view_put f d xs h x l = fun_ext (λ k. put_at (λ v. f (get_or (set xs h x) k d) ≡ v) (λ (k : ℕ). f (get_or xs k d)) h (f x) k
    (λ e. ap f (ap (λ (i : ℕ). get_or (set xs h x) i d) e ∙ get_or-set_same xs h x d l))
    (λ n. ap f (get_or-set_other xs h k x d n)))

-- Sayings

pub record Grows (said said' : Sayings) : Type 0 where
  pub agrees : (t k n : ℕ) → said t k ≡ agreed n → said' t k ≡ agreed n
  pub denies : (t k : ℕ) → said t k ≡ denied → said' t k ≡ denied

pub record More (issues issues' : List Issued) : Type 0 where
  pub still : (t : ℕ) (i : Issued) → issue_of t issues ≡ Some i → issue_of t issues' ≡ Some i

pub stays : (said : Sayings) → Grows said said
stays said = record { agrees = λ t k n e. e; denies = λ t k e. e }

pub no_more : (issues : List Issued) → More issues issues
no_more issues = record { still = λ t i e. e }

-- hall h says v of transaction t
abbrev pub says : Sayings → ℕ → ℕ → Saying → Sayings
says said t h v = put said t (put (said t) h v)

pub says_here : (said : Sayings) (t h : ℕ) (v : Saying) → says said t h v t h ≡ v
says_here said t h v = ap (λ (f : ℕ → Saying). f h) (put_here said t (put (said t) h v) t refl) ∙ put_here (said t) h v h refl

pub says_at : (P : Saying → Type 0) (said : Sayings) (t h : ℕ) (v : Saying) (t' k : ℕ) → (t' ≡ t → k ≡ h → P v) → P (said t' k) → P (says said t h v t' k)
says_at P said t h v t' k new old =
    put_at (λ (f : ℕ → Saying). P (f k)) said t (put (said t) h v) t'
    (λ e. put_at P (said t) h v k (λ r. new e r) (λ _. subst (λ (i : ℕ). P (said i k)) e old))
    (λ _. old)

silent_not_agreed : {n : ℕ} → silent ≡ agreed n → ⊥
silent_not_agreed e = let z : ◌≡◌ {A = ℕ} 0 1 = cc in omega arith

silent_not_denied : silent ≡ denied → ⊥
silent_not_denied e = let z : ◌≡◌ {A = ℕ} 0 1 = cc in omega arith

pub says_grows : (said : Sayings) (t h : ℕ) (v : Saying) → said t h ≡ silent → Grows said (says said t h v)
says_grows said t h v quiet = record {
  agrees = λ t' k n e. says_at (λ x. x ≡ agreed n) said t h v t' k
      (λ p q. absurd (silent_not_agreed (sym quiet ∙ (ap (λ (i : ℕ). said i h) (sym p) ∙ (ap (said t') (sym q) ∙ e))))) e;
  denies = λ t' k e. says_at (λ x. x ≡ denied) said t h v t' k
      (λ p q. absurd (silent_not_denied (sym quiet ∙ (ap (λ (i : ℕ). said i h) (sym p) ∙ (ap (said t') (sym q) ∙ e))))) e;
}

-- a hall that has recorded the sequence says something
pub heard_more : (said : Sayings) (taken : ℕ → List ℕ) (t h : ℕ) (v : Saying) → sequence t ≤ get_or (taken h) (console t) 0 → Heard said taken → Heard (says said t h v) taken
heard_more said taken t h v recorded heard t' k =
    elim (heard t' k) [
      | inl q ↦ elim (cases_eq t' t) [
        | inl e ↦ elim (cases_eq k h) [
          | inl f ↦ inr (subst (λ (i : ℕ). sequence i ≤ get_or (taken k) (console i) 0) (sym e) (subst (λ (i : ℕ). sequence t ≤ get_or (taken i) (console t) 0) (sym f) recorded))
          | inr n ↦ inl (says_at (λ x. x ≡ silent) said t h v t' k (λ _ f. absurd (n f)) q)
        ]
        | inr n ↦ inl (says_at (λ x. x ≡ silent) said t h v t' k (λ e _. absurd (n e)) q)
      ]
      | inr l ↦ inr l
    ]

pub heard_rises : (said : Sayings) (taken taken' : ℕ → List ℕ) → ((k c : ℕ) → get_or (taken k) c 0 ≤ get_or (taken' k) c 0) → Heard said taken → Heard said taken'
heard_rises said taken taken' rise heard t k = elim (heard t k) [
  | inl q ↦ inl q
  | inr l ↦ let a = rise k (console t) in inr (omega arith)
]

-- More is said, or issued

module _ {said said' : Sayings} {issues issues' : List Issued} (g : Grows said said') (more : More issues issues') where
  pub meant_more : {t class halls h : ℕ} {operation : Operation} → Meant issues t class halls h operation → Meant issues' t class halls h operation
  meant_more {t} there = record {
    issue = there.issue;
    found = more.still t there.issue there.found;
    class_is = there.class_is;
    halls_is = there.halls_is;
    operation_is = there.operation_is;
    named = there.named;
    alone = there.alone;
  }

  pub genuine_more : (x : Message) → Genuine said issues x → Genuine said' issues' x
  genuine_more (request r) h = meant_more h
  genuine_more (vote v) h = record { commit = λ e. g.agrees v.transaction v.from v.stamp (h.commit e); other = λ n. g.denies v.transaction v.from (h.other n) }
  genuine_more (reply y) h = tt

  pub agreed_more : (t n k : ℕ) → AgreedBy said t n k → AgreedBy said' t n k
  agreed_more t n k a = (a.0, g.agrees t k a.0 a.1, a.2)

  pub topped_more : (t n halls : ℕ) → Topped said t n halls → Topped said' t n halls
  topped_more t n halls a = (a.0, a.1, g.agrees t a.0 n a.2)

  pub stamped_more : (e : Entry) → Stamped said e → Stamped said' e
  stamped_more e a = topped_more e.transaction e.stamp e.halls a

  pub told_more : (post : List Message) (queue : List Entry) (done : List Part) (fallen : List Fallen)
      → ToldTrue said issues post queue done fallen → ToldTrue said' issues' post queue done fallen
  told_more post queue done fallen h = record {
    posted = λ there i. genuine_more there (h.posted there i);
    queued = λ e i. let c = h.queued e i in record {
      meant = meant_more c.meant;
      voted = λ k n. agreed_more e.transaction e.stamp k (c.voted k n);
      stamped = stamped_more e c.stamped;
    };
    did = λ x i. let c = h.did x i in record {
      issue = c.issue;
      found = more.still x.transaction c.issue c.found;
      here = c.here;
      all = λ k n. agreed_more x.transaction x.stamp k (c.all k n);
      topped = topped_more x.transaction x.stamp c.issue.halls c.topped;
    };
    fell = λ f i. let c = h.fell f i in record {
      issue = c.issue;
      found = more.still f.transaction c.issue c.found;
      by = (c.by.0, c.by.1, g.denies f.transaction c.by.0 c.by.2);
    };
  }

-- The order at the halls

-- f stands for g: the same but for votes and a stamp that may be greater
pub record Alike (f g : Entry) : Type 0 where
  pub hall : f.hall ≡ g.hall
  pub transaction : f.transaction ≡ g.transaction
  pub class : f.class ≡ g.class
  pub keys : f.keys ≡ g.keys
  pub operation : f.operation ≡ g.operation
  pub stamp : g.stamp ≤ f.stamp

pub like_itself : (f : Entry) → Alike f f
like_itself f = record { hall = refl; transaction = refl; class = refl; keys = refl; operation = refl; stamp = omega arith }

abbrev pub AllLike : (Entry → Type 0) → (Entry → Type 0) → Type 0
AllLike In' In = (f : Entry) → In' f → (g : Entry) × In g × Alike f g

raised : (s s' t d dt : ℕ) → s ≤ s' → before s t d dt ≡ false → before s' t d dt ≡ false
raised s s' t d dt l h = grind (arith, nat_tests)

late : (s t d dt : ℕ) → d < s → before s t d dt ≡ false
late s t d dt l = grind (arith, nat_tests)

-- above the hall's last, a stamp comes after all that is done there
pub above_last : (m : Model) (last : ℕ → ℕ) (done : List Part) (s t h : ℕ) (o : Operation) → last h < s → ((d : Part) → d ∈ done → d.stamp ≤ last d.hall)
    → (d : Part) → d ∈ done → d.hall ≡ h → AfterOrApart m s t o d
above_last m last done s t h o l lasts d j q =
    let a = lasts d j in
    let b : last d.hall ≡ last h = ap last q in
    inl (late s t d.stamp d.transaction (omega arith))

module _ (m : Model) where
  pub ordered_like : (last : ℕ → ℕ) (locking : ℕ → Bool) (In In' : Entry → Type 0) (pages : ℕ → Page) (done : List Part)
      → AllLike In' In → Ordered m last locking In pages done → Ordered m last locking In' pages done
  ordered_like last locking In In' pages done like h = record {
    after = λ f x i j e.
        let (g, there, a) = like f i in
        elim (h.after g x there j (e ∙ a.hall)) [
          | inl b ↦ inl (raised g.stamp f.stamp f.transaction x.stamp x.transaction a.stamp (subst (λ (t : ℕ). before g.stamp t x.stamp x.transaction ≡ false) (sym a.transaction) b))
          | inr b ↦ inr (subst (λ (o : Operation). Apart m o x.operation) (sym a.operation) b)
        ];
    lasts = h.lasts;
    holds = λ f i l. let (g, there, a) = like f i in
        a.keys ∙ h.holds g there (ap locking (sym a.hall) ∙ l) ∙ ap m.keys (sym a.operation);
    apart = λ f f' i i' e l n.
        let (g, there, a) = like f i in
        let (g', there', a') = like f' i' in
        let r = h.apart g g' there there' (sym a.hall ∙ (e ∙ a'.hall)) (ap locking (sym a.hall) ∙ l) (λ q. n (a.transaction ∙ (q ∙ sym a'.transaction))) in
        subst (λ (o : Operation). Apart m o f'.operation) (sym a.operation) (subst (λ (o : Operation). Apart m g.operation o) (sym a'.operation) r);
    locked = λ f i c. let (g, there, a) = like f i in ap locking a.hall ∙ h.locked g there (sym a.class ∙ c);
    sound = λ f i c. let (g, there, a) = like f i in
        ap (λ (k : ℕ). well_done (m.answer (pages k) f.operation)) a.hall ∙ (ap (λ (o : Operation). well_done (m.answer (pages g.hall) o)) a.operation ∙ h.sound g there (sym a.class ∙ c));
  }

  -- modes change where nothing stands, and lasts rise
  pub ordered_halls : (last last' : ℕ → ℕ) (locking locking' : ℕ → Bool) (In : Entry → Type 0) (pages : ℕ → Page) (done : List Part)
      → ((k : ℕ) → last k ≤ last' k) → ((e : Entry) → In e → locking' e.hall ≡ locking e.hall) → Ordered m last locking In pages done → Ordered m last' locking' In pages done
  ordered_halls last last' locking locking' In pages done rise same h = record {
    after = h.after;
    lasts = λ x i. let a = h.lasts x i in let b = rise x.hall in omega arith;
    holds = λ e i l. h.holds e i (sym (same e i) ∙ l);
    apart = λ e f i j q l n. h.apart e f i j q (sym (same e i) ∙ l) n;
    locked = λ e i c. same e i ∙ h.locked e i c;
    sound = h.sound;
  }

  -- an entry comes to stand, with a stamp above the hall's last
  pub ordered_enters : (last : ℕ → ℕ) (locking : ℕ → Bool) (In In' : Entry → Type 0) (pages : ℕ → Page) (done : List Part) (x : Entry)
      → ((e : Entry) → In' e → In e ⊎ (e ≡ x))
      → last x.hall < x.stamp
      → (locking x.hall ≡ true → Holds m x)
      → (locking x.hall ≡ true → (f : Entry) → In f → f.hall ≡ x.hall → Apart m f.operation x.operation)
      → (x.class ≡ Coordinated → locking x.hall ≡ true)
      → (x.class ≡ Coordinated → well_done (m.answer (pages x.hall) x.operation) ≡ true)
      → Ordered m last locking In pages done → Ordered m last locking In' pages done
  ordered_enters last locking In In' pages done x from above holds apart locked sound h = record {
    after = λ e d i j q. elim (from e i) [
      | inl there ↦ h.after e d there j q
      | inr p ↦ subst (λ (w : Entry). AfterOrApart m w.stamp w.transaction w.operation d) (sym p) (above_last m last done x.stamp x.transaction x.hall x.operation above h.lasts d j (q ∙ ap (λ (w : Entry). w.hall) p))
    ];
    lasts = h.lasts;
    holds = λ e i. elim (from e i) [
      | inl there ↦ h.holds e there
      | inr p ↦ subst (λ (w : Entry). locking w.hall ≡ true → Holds m w) (sym p) holds
    ];
    apart = λ e f i j q l n. elim (from e i) [
      | inl there ↦ elim (from f j) [
        | inl there' ↦ h.apart e f there there' q l n
        | inr p' ↦ subst (λ (w : Entry). Apart m e.operation w.operation) (sym p')
            (apart (ap locking (sym (q ∙ ap (λ (w : Entry). w.hall) p')) ∙ l) e there (q ∙ ap (λ (w : Entry). w.hall) p'))
      ]
      | inr p ↦ elim (from f j) [
        | inl there' ↦ subst (λ (w : Entry). Apart m w.operation f.operation) (sym p)
            (apart_sym m f.operation x.operation (apart (ap (λ (w : Entry). locking w.hall) (sym p) ∙ l) f there' (sym q ∙ ap (λ (w : Entry). w.hall) p)))
        | inr p' ↦ absurd (n (ap (λ (w : Entry). w.transaction) (p ∙ sym p')))
      ]
    ];
    locked = λ e i. elim (from e i) [
      | inl there ↦ h.locked e there
      | inr p ↦ subst (λ (w : Entry). w.class ≡ Coordinated → locking w.hall ≡ true) (sym p) locked
    ];
    sound = λ e i. elim (from e i) [
      | inl there ↦ h.sound e there
      | inr p ↦ subst (λ (w : Entry). w.class ≡ Coordinated → well_done (m.answer (pages w.hall) w.operation) ≡ true) (sym p) sound
    ];
  }

  -- a part is done, with a stamp up to the hall's last
  pub ordered_does : Lawful m → (last : ℕ → ℕ) (locking : ℕ → Bool) (In : Entry → Type 0) (pages : ℕ → Page) (done : List Part) (x : Part)
      → m.own (pages x.hall)
      → x.stamp ≤ last x.hall
      → ((e : Entry) → In e → e.hall ≡ x.hall → AfterOrApart m e.stamp e.transaction e.operation x)
      → ((e : Entry) → In e → e.hall ≡ x.hall → e.class ≡ Coordinated → Apart m x.operation e.operation)
      → Ordered m last locking In pages done
      → Ordered m last locking In (put pages x.hall (m.next (pages x.hall) x.operation)) (x ∷ done)
  ordered_does laws last locking In pages done x own last_up after apart h = record {
    after = λ e d i j q. elim j [
      | inl p ↦ subst (λ (w : Part). AfterOrApart m e.stamp e.transaction e.operation w) (sym p) (after e i (sym q ∙ ap (λ (w : Part). w.hall) p))
      | inr there ↦ h.after e d i there q
    ];
    lasts = λ d j. elim j [
      | inl p ↦ subst (λ (w : Part). w.stamp ≤ last w.hall) (sym p) last_up
      | inr there ↦ h.lasts d there
    ];
    holds = h.holds;
    apart = h.apart;
    locked = h.locked;
    sound = λ e i c. put_at (λ (p : Page). well_done (m.answer p e.operation) ≡ true) pages x.hall (m.next (pages x.hall) x.operation) e.hall
        (λ q. ap well_done ((apart_pass m laws (pages x.hall) own x.operation e.operation (apart e i q c)).second)
        ∙ (ap (λ (k : ℕ). well_done (m.answer (pages k) e.operation)) (sym q) ∙ h.sound e i c))
        (λ _. h.sound e i c);
  }

  pub right_does : Lawful m → (first pages : ℕ → Page) (done : List Part) (x : Part)
      → ((d : Part) → d ∈ done → d.hall ≡ x.hall → AfterOrApart m x.stamp x.transaction x.operation d)
      → m.answer (pages x.hall) x.operation ≡ x.answer
      → (x.coordinated ≡ true → well_done x.answer ≡ true)
      → DoneRight m first pages done → DoneRight m first (put pages x.hall (m.next (pages x.hall) x.operation)) (x ∷ done)
  right_does laws first pages done x after answer well_so h = record {
    own = λ k. put_at m.own pages x.hall (m.next (pages x.hall) x.operation) k (λ _. laws.keeps (pages x.hall) x.operation (h.own x.hall)) (λ _. h.own k);
    started = h.started;
    no_fault = λ d j. elim j [
      | inl p ↦ subst (λ (w : Part). w.coordinated ≡ true → well_done w.answer ≡ true) (sym p) well_so
      | inr there ↦ h.no_fault d there
    ];
    plain = λ k. cond_both (eqb x.hall k) (x ∷ at_hall k done) (at_hall k done)
        (λ (l : List Part). PlainOrder m (first k) l (put pages x.hall (m.next (pages x.hall) x.operation) k))
        (λ n. let e = eqb-true x.hall k n in
        subst (λ (p : Page). PlainOrder m (first k) (x ∷ at_hall k done) p) (sym (put_here pages x.hall (m.next (pages x.hall) x.operation) k (sym e)))
        (subst (λ (i : ℕ). PlainOrder m (first i) (x ∷ at_hall i done) (m.next (pages x.hall) x.operation)) e
        (one_more m laws x (at_hall x.hall done) (first x.hall) (pages x.hall) (h.started x.hall) (h.plain x.hall)
        (λ d there. let r = in_at_hall x.hall done d there in after d r.0 r.1) answer)))
        (λ n. subst (λ (p : Page). PlainOrder m (first k) (at_hall k done) p) (sym (put_there pages x.hall (m.next (pages x.hall) x.operation) k (λ e. eqb-false x.hall k n (sym e)))) (h.plain k));
  }

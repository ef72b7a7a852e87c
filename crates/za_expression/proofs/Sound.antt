-- What is read is derived by the grammar.
use Rattle.std.proofs.Common.{◌≡◌, ℕ, zero, suc, ◌+◌, List, [], ◌∷◌, ◌++◌, Option, Some, None, length, refl, sym, ap, subst, ◌∙◌, arith, length-append}
use Rattle.std.proofs.Common.{append_assoc, append-nil}
use Rattle.za_expression.specs.declared.sign.Sign.{Sign}
use Rattle.za_expression.specs.declared.sign.Sign.TheVariants.{Name, Empty, Open, Close, Begin, End, Bar, Times, Ampersand, Bang}
use Rattle.za_expression.specs.Plain.{Plain, One, Occurrence, Sequence, Star}
use Rattle.za_expression.specs.Forms.{Form, Part}
use Rattle.za_expression.specs.Grammar.{Rank, Item, Product, Sum, Reads, Named, EmptyWord, Group, Bare, Starred, Single, Next, Alone, Other, Level, Unary}
use Rattle.za_expression.specs.Grammar.{Whole}
use Rattle.za_expression.specs.Grammar.{Derives, Plainly as IsPlain, Denied, Braced, Only, Joined, IsForm}
use Rattle.za_expression.specs.Private.Machine.{Layer, Frame, Now, Fresh, Plainly, Closed, Stack, empty_layer, then_item, or_product, and_unary, denied, bind}
use Rattle.za_expression.specs.Private.Machine.{product_of, sum_of, with_item, with_star, with_bar, layer_step, unary_of, form_here, fresh_frame, pops}
use Rattle.za_expression.specs.Private.Machine.{with_now}
use Rattle.za_expression.specs.Private.Machine.{now_step, plain_step, step, read_from, ended, start, parsed}

-- what a bind that gives something came from
pub record Bound {A B : Type 0} (o : Option A) (f : A → Option B) (y : B) : Type 0 where
  pub value : A
  pub was : o ≡ Some value
  pub gives : f value ≡ Some y

pub bound : {A B : Type 0} (o : Option A) (f : A → Option B) (y : B) → bind o f ≡ Some y → Bound o f y
bound None f y h = cc
bound (Some x) f y h = record { value = x; was = refl; gives = h }

pub data SumsRead : ℕ → List Sign → Option Plain → Type 0 where
  NoSums : {at : ℕ} → SumsRead at [] None
  SomeSums : {at : ℕ} {d : Plain} (us : List Sign) {all : List Sign} → Reads Sum at us d → all ≡ us ++ Bar ∷ [] → SumsRead at all (Some d)

-- the items before the last, and the last
pub data ItemsRead : ℕ → List Sign → Option Plain → Option Plain → Type 0 where
  NoItem : {at : ℕ} → ItemsRead at [] None None
  OneItem : {at : ℕ} {e : Plain} {ts : List Sign} → Reads Item at ts e → ItemsRead at ts None (Some e)
  MoreItems : {at : ℕ} {c e : Plain} (us vs : List Sign) {all : List Sign} → Reads Product at us c → Reads Item (at + length us) vs e → all ≡ us ++ vs →
      ItemsRead at all (Some c) (Some e)

pub record LayerReads (at : ℕ) (ts : List Sign) (l : Layer) : Type 0 where
  pub front : List Sign
  pub back : List Sign
  pub is : ts ≡ front ++ back
  pub in_front : SumsRead at front l.sums
  pub in_back : ItemsRead (at + length front) back l.items l.last

reads_at : (r : Rank) (at bt : ℕ) (ts : List Sign) (e : Plain) → at ≡ bt → Reads r at ts e → Reads r bt ts e
reads_at r at bt ts e z h = subst (λ x. Reads r x ts e) z h

items_at : (at bt : ℕ) (ts : List Sign) (i l : Option Plain) → at ≡ bt → ItemsRead at ts i l → ItemsRead bt ts i l
items_at at bt ts i l z h = subst (λ x. ItemsRead x ts i l) z h

product_out : (at : ℕ) (ts : List Sign) (items last : Option Plain) (c : Plain) → ItemsRead at ts items last →
    bind last (λ e. Some (then_item items e)) ≡ Some c → Reads Product at ts c
product_out at ts items last c NoItem z = cc
product_out at ts items last c (OneItem {e = e} h) z = let k : e ≡ c = cc in subst (λ x. Reads Product at ts x) k (Single h)
product_out at ts items last c (MoreItems {c = d} {e = e} us vs h k w) z = let g : Sequence d e ≡ c = cc in
    subst (λ x. Reads Product at ts x) g (Next us vs h k w)

sum_at : (at : ℕ) (front back ts : List Sign) (sums : Option Plain) (c : Plain) → SumsRead at front sums → Reads Product (at + length front) back c →
    ts ≡ front ++ back → Reads Sum at ts (or_product sums c)
sum_at at front back ts sums c NoSums h z = subst (λ x. Reads Sum at x c) (sym z) (Alone (reads_at Product (at + 0) at back c (omega arith) h))
sum_at at front back ts sums c (SomeSums us k w) h z =
    let n = length-append us (Bar ∷ []) in
    let e : at + length front ≡ at + length us + 1 = ap (λ x. at + length x) w ∙
    (let g : at + length (us ++ Bar ∷ []) ≡ at + length us + 1 = omega arith in g) in
    Other us back k (reads_at Product (at + length front) (at + length us + 1) back c e h) (z ∙ (ap (λ x. x ++ back) w ∙ append_assoc us (Bar ∷ []) back))

sum_split : (l : Layer) (e : Plain) → sum_of l ≡ Some e → (c : Plain) × (product_of l ≡ Some c) × (or_product l.sums c ≡ e)
sum_split l e h =
    let b = bound l.last (λ x. Some (or_product l.sums (then_item l.items x))) e h in
    let g = b.gives in (
      then_item l.items b.value,
      ap (λ (o : Option Plain). bind o (λ x. Some (then_item l.items x))) b.was,
      (let k : or_product l.sums (then_item l.items b.value) ≡ e = cc in k),
    )

pub sum_out : (at : ℕ) (ts : List Sign) (l : Layer) (e : Plain) → LayerReads at ts l → sum_of l ≡ Some e → Reads Sum at ts e
sum_out at ts l e r h =
    let k = sum_split l e h in
    let c = product_out (at + length r.front) r.back l.items l.last k.0 r.in_back k.1 in
    subst (λ x. Reads Sum at ts x) k.2 (sum_at at r.front r.back ts l.sums k.0 r.in_front c r.is)

items_in : (at : ℕ) (ts us : List Sign) (items last : Option Plain) (e : Plain) → ItemsRead at ts items last → Reads Item (at + length ts) us e →
    ItemsRead at (ts ++ us) (bind last (λ x. Some (then_item items x))) (Some e)
items_in at ts us items last e NoItem k = OneItem (reads_at Item (at + 0) at us e (omega arith) k)
items_in at ts us items last e (OneItem h) k = MoreItems ts us (Single h) k refl
items_in at ts us items last e (MoreItems xs ys h i w) k = MoreItems ts us (Next xs ys h i w) k refl

pub item_in : (at : ℕ) (ts us : List Sign) (l : Layer) (e : Plain) → LayerReads at ts l → Reads Item (at + length ts) us e →
    LayerReads at (ts ++ us) (with_item l e)
item_in at ts us l e r k =
    let n = length-append r.front r.back in
    let z : at + length ts ≡ at + length r.front + length r.back = ap (λ x. at + length x) r.is ∙
    (let g : at + length (r.front ++ r.back) ≡ at + length r.front + length r.back = omega arith in g) in
    record {
      front = r.front;
      back = r.back ++ us;
      is = ap (λ x. x ++ us) r.is ∙ append_assoc r.front r.back us;
      in_front = r.in_front;
      in_back = items_in (at + length r.front) r.back us l.items l.last e r.in_back
          (reads_at Item (at + length ts) (at + length r.front + length r.back) us e z k);
    }

items_star : (at : ℕ) (ts : List Sign) (items last : Option Plain) (e : Plain) → ItemsRead at ts items last → last ≡ Some e →
    ItemsRead at (ts ++ Times ∷ []) items (Some (Star e))
items_star at ts items last e NoItem z = cc
items_star at ts items last e (OneItem {e = d} h) z = let k : d ≡ e = cc in OneItem (Starred ts (subst (λ x. Reads Item at ts x) k h) refl)
items_star at ts items last e (MoreItems {e = d} us vs h i w) z =
    let k : d ≡ e = cc in
    MoreItems us (vs ++ Times ∷ []) h (Starred vs (subst (λ x. Reads Item (at + length us) vs x) k i) refl) (ap (λ x. x ++ Times ∷ []) w ∙
    append_assoc us vs (Times ∷ []))

pub star_in : (at : ℕ) (ts : List Sign) (l m : Layer) → LayerReads at ts l → with_star l ≡ Some m → LayerReads at (ts ++ Times ∷ []) m
star_in at ts l m r h =
    let b = bound l.last (λ e. Some (record { sums = l.sums; items = l.items; last = Some (Star e) })) m h in
    let starred : Layer = record { sums = l.sums; items = l.items; last = Some (Star b.value) } in
    let g = b.gives in
    let k : starred ≡ m = cc in
    let out : LayerReads at (ts ++ Times ∷ []) starred = record {
      front = r.front;
      back = r.back ++ Times ∷ [];
      is = ap (λ x. x ++ Times ∷ []) r.is ∙ append_assoc r.front r.back (Times ∷ []);
      in_front = r.in_front;
      in_back = items_star (at + length r.front) r.back l.items l.last b.value r.in_back b.was;
    } in
    subst (λ x. LayerReads at (ts ++ Times ∷ []) x) k out

pub bar_in : (at : ℕ) (ts : List Sign) (l m : Layer) → LayerReads at ts l → with_bar l ≡ Some m → LayerReads at (ts ++ Bar ∷ []) m
bar_in at ts l m r h =
    let b = bound (sum_of l) (λ e. Some (record { sums = Some e; items = None; last = None })) m h in
    let barred : Layer = record { sums = Some b.value; items = None; last = None } in
    let g = b.gives in
    let k : barred ≡ m = cc in
    let out : LayerReads at (ts ++ Bar ∷ []) barred = record {
      front = ts ++ Bar ∷ [];
      back = [];
      is = sym (append-nil (ts ++ Bar ∷ []));
      in_front = SomeSums ts (sum_out at ts l b.value r b.was) refl;
      in_back = NoItem;
    } in
    subst (λ x. LayerReads at (ts ++ Bar ∷ []) x) k out

pub empty_reads : (at : ℕ) → LayerReads at [] empty_layer
empty_reads at = record { front = []; back = []; is = refl; in_front = NoSums; in_back = NoItem }

-- a layer inside its open groups
pub data GroupsRead : ℕ → List Sign → Layer → List Layer → Type 0 where
  Outmost : {at : ℕ} {ts : List Sign} {l : Layer} → LayerReads at ts l → GroupsRead at ts l []
  Inside : {at : ℕ} {l g : Layer} {groups : List Layer} (us vs : List Sign) {all : List Sign} → GroupsRead at us g groups →
      LayerReads (at + length us + 1) vs l → all ≡ us ++ Open ∷ vs → GroupsRead at all l (g ∷ groups)

abbrev pub NowReads : ℕ → List Sign → Now → Type 0
NowReads at ts Fresh = ts ≡ []
NowReads at ts (Plainly l groups) = GroupsRead at ts l groups
NowReads at ts (Closed f) = Derives Unary at ts f

-- one more piece for the innermost layer
deepen : (at : ℕ) (ts us : List Sign) (l m : Layer) (groups : List Layer) →
    ((bt : ℕ) (xs : List Sign) → bt + length xs ≡ at + length ts → LayerReads bt xs l → LayerReads bt (xs ++ us) m) → GroupsRead at ts l groups →
    GroupsRead at (ts ++ us) m groups
deepen at ts us l m groups f (Outmost h) = Outmost (f at ts refl h)
deepen at ts us l m groups f (Inside xs ys h k w) =
    let n = length-append xs (Open ∷ ys) in
    let z : at + length xs + 1 + length ys ≡ at + length ts = (let g : at + length xs + 1 + length ys ≡ at + length (xs ++ Open ∷ ys) = omega arith in g) ∙
    ap (λ x. at + length x) (sym w) in
    Inside xs (ys ++ us) h (f (at + length xs + 1) ys z k) (ap (λ x. x ++ us) w ∙ append_assoc xs (Open ∷ ys) us)

pub close_group : (at : ℕ) (ts : List Sign) (l g : Layer) (groups all : List Layer) (e : Plain) → GroupsRead at ts l all → all ≡ g ∷ groups →
    sum_of l ≡ Some e → GroupsRead at (ts ++ Close ∷ []) (with_item g e) groups
close_group at ts l g groups all e (Outmost h) z s = cc
close_group at ts l g groups all e (Inside {g = g2} {groups = rest} us vs h k w) z s =
    let g_is : g2 ≡ g = cc in
    let rest_is : rest ≡ groups = cc in
    let h2 : GroupsRead at us g groups = subst (λ x. GroupsRead at us g x) rest_is (subst (λ x. GroupsRead at us x rest) g_is h) in
    let n = sum_out (at + length us + 1) vs l e k s in
    let piece : List Sign = Open ∷ (vs ++ Close ∷ []) in
    let atom : Reads Item (at + length us) piece e = Bare (Group vs n refl) in
    let d = deepen at us piece g (with_item g e) groups
    (λ bt xs q r. item_in bt xs piece g e r (reads_at Item (at + length us) (bt + length xs) piece e (sym q) atom)) h2 in
    let t : ts ++ Close ∷ [] ≡ us ++ piece = ap (λ x. x ++ Close ∷ []) w ∙ append_assoc us (Open ∷ vs) (Close ∷ []) in
    subst (λ x. GroupsRead at x (with_item g e) groups) (sym t) d

-- one more token of a plain
layer_sound : (at : ℕ) (ts : List Sign) (l : Layer) (groups : List Layer) (t : Sign) (now : Now) → GroupsRead at ts l groups →
    layer_step (at + length ts) l groups t ≡ Some now → NowReads at (ts ++ t ∷ []) now
layer_sound at ts l groups (Name a) now r h =
    let k : Plainly (with_item l (Occurrence (at + length ts))) groups ≡ now = cc in
    subst (λ x. NowReads at (ts ++ Name a ∷ []) x) k
    (deepen at ts (Name a ∷ []) l (with_item l (Occurrence (at + length ts))) groups
    (λ bt xs q i. item_in bt xs (Name a ∷ []) l (Occurrence (at + length ts)) i
    (reads_at Item (at + length ts) (bt + length xs) (Name a ∷ []) (Occurrence (at + length ts)) (sym q) (Bare (Named a)))) r)
layer_sound at ts l groups Empty now r h =
    let k : Plainly (with_item l One) groups ≡ now = cc in
    subst (λ x. NowReads at (ts ++ Empty ∷ []) x) k
    (deepen at ts (Empty ∷ []) l (with_item l One) groups (λ bt xs q i. item_in bt xs (Empty ∷ []) l One i (Bare EmptyWord)) r)
layer_sound at ts l groups Open now r h =
    let k : Plainly empty_layer (l ∷ groups) ≡ now = cc in
    subst (λ x. NowReads at (ts ++ Open ∷ []) x) k (Inside ts [] r (empty_reads (at + length ts + 1)) refl)
layer_sound at ts l [] Close now r h = cc
layer_sound at ts l (g ∷ groups) Close now r h =
    let b = bound (sum_of l) (λ e. Some (Plainly (with_item g e) groups)) now h in
    let w = b.gives in
    let k : Plainly (with_item g b.value) groups ≡ now = cc in
    subst (λ x. NowReads at (ts ++ Close ∷ []) x) k (close_group at ts l g groups (g ∷ groups) b.value r refl b.was)
layer_sound at ts l groups Bar now r h =
    let b = bound (with_bar l) (λ m. Some (Plainly m groups)) now h in
    let w = b.gives in
    let k : Plainly b.value groups ≡ now = cc in
    subst (λ x. NowReads at (ts ++ Bar ∷ []) x) k (deepen at ts (Bar ∷ []) l b.value groups (λ bt xs q i. bar_in bt xs l b.value i b.was) r)
layer_sound at ts l groups Times now r h =
    let b = bound (with_star l) (λ m. Some (Plainly m groups)) now h in
    let w = b.gives in
    let k : Plainly b.value groups ≡ now = cc in
    subst (λ x. NowReads at (ts ++ Times ∷ []) x) k (deepen at ts (Times ∷ []) l b.value groups (λ bt xs q i. star_in bt xs l b.value i b.was) r)
layer_sound at ts l groups Begin now r h = cc
layer_sound at ts l groups End now r h = cc
layer_sound at ts l groups Ampersand now r h = cc
layer_sound at ts l groups Bang now r h = cc

-- the forms
pub data LeftReads : ℕ → List Sign → Option Form → Type 0 where
  NoLeft : {at : ℕ} → LeftReads at [] None
  SomeLeft : {at : ℕ} {f : Form} (us : List Sign) {all : List Sign} → Derives Whole at us f → all ≡ us ++ Ampersand ∷ [] → LeftReads at all (Some f)

abbrev pub bangs : ℕ → List Sign
bangs zero = []
bangs (suc n) = Bang ∷ bangs n

bangs-more : (n : ℕ) → bangs n ++ Bang ∷ [] ≡ bangs (suc n)
bangs-more zero = refl
bangs-more (suc n) = ap (λ x. Bang ∷ x) (bangs-more n)

length-bangs : (n : ℕ) → length (bangs n) ≡ n
length-bangs zero = refl
length-bangs (suc n) = ap suc (length-bangs n)

pub record FrameReads (at : ℕ) (ts : List Sign) (frame : Frame) : Type 0 where
  pub text : List Sign
  pub is : ts ≡ text ++ bangs frame.nots
  pub left : LeftReads at text frame.left

pub record HereReads (at : ℕ) (ts : List Sign) (now : Now) (frame : Frame) : Type 0 where
  pub front : List Sign
  pub back : List Sign
  pub is : ts ≡ front ++ back
  pub in_front : FrameReads at front frame
  pub in_back : NowReads (at + length front) back now

pub data OuterReads : List Sign → List Frame → Type 0 where
  NoOuter : OuterReads [] []
  InOuter : {frame : Frame} {outer : List Frame} (us vs : List Sign) {all : List Sign} → OuterReads us outer → FrameReads (1 + length us) vs frame →
      all ≡ us ++ (vs ++ Begin ∷ []) → OuterReads all (frame ∷ outer)

pub record StateReads (ts : List Sign) (now : Now) (frame : Frame) (outer : List Frame) : Type 0 where
  pub front : List Sign
  pub back : List Sign
  pub is : ts ≡ front ++ back
  pub in_front : OuterReads front outer
  pub in_back : HereReads (1 + length front) back now frame

derives_at : (r : Level) (at bt : ℕ) (ts : List Sign) (f : Form) → at ≡ bt → Derives r at ts f → Derives r bt ts f
derives_at r at bt ts f z h = subst (λ x. Derives r x ts f) z h

groups_none : (at : ℕ) (ts : List Sign) (l : Layer) (groups : List Layer) → GroupsRead at ts l groups → groups ≡ [] → LayerReads at ts l
groups_none at ts l groups (Outmost h) z = h
groups_none at ts l groups (Inside us vs h k w) z = cc

unary_out : (at : ℕ) (ts : List Sign) (now : Now) (g : Form) → NowReads at ts now → unary_of now ≡ Some g → Derives Unary at ts g
unary_out at ts Fresh g r h = cc
unary_out at ts (Plainly l []) g r h =
    let b = bound (sum_of l) (λ e. Some (Part e)) g h in
    let w = b.gives in
    let k : Part b.value ≡ g = cc in
    subst (λ x. Derives Unary at ts x) k (IsPlain (sum_out at ts l b.value (groups_none at ts l [] r refl) b.was))
unary_out at ts (Plainly l (x ∷ groups)) g r h = cc
unary_out at ts (Closed f) g r h = let k : f ≡ g = cc in subst (λ x. Derives Unary at ts x) k r

denied_out : (n at : ℕ) (ts : List Sign) (g : Form) → Derives Unary (at + n) ts g → Derives Unary at (bangs n ++ ts) (denied n g)
denied_out zero at ts g h = derives_at Unary (at + 0) at ts g (omega arith) h
denied_out (suc n) at ts g h = Denied (bangs n ++ ts) (denied_out n (at + 1) ts g (derives_at Unary (at + suc n) (at + 1 + n) ts g (omega arith) h)) refl

left_out : (at : ℕ) (text vs all : List Sign) (left : Option Form) (g : Form) → LeftReads at text left → Derives Unary (at + length text) vs g →
    all ≡ text ++ vs → Derives Whole at all (and_unary left g)
left_out at text vs all left g NoLeft h z = subst (λ x. Derives Whole at x g) (sym z) (Only (derives_at Unary (at + 0) at vs g (omega arith) h))
left_out at text vs all left g (SomeLeft us k w) h z =
    let n = length-append us (Ampersand ∷ []) in
    let e : at + length text ≡ at + length us + 1 = ap (λ x. at + length x) w ∙
    (let q : at + length (us ++ Ampersand ∷ []) ≡ at + length us + 1 = omega arith in q) in
    Joined us vs k (derives_at Unary (at + length text) (at + length us + 1) vs g e h) (z ∙ (ap (λ x. x ++ vs) w ∙ append_assoc us (Ampersand ∷ []) vs))

pub form_out : (at : ℕ) (ts : List Sign) (now : Now) (frame : Frame) (f : Form) → HereReads at ts now frame → form_here now frame ≡ Some f
    → Derives Whole at ts f
form_out at ts now frame f r h =
    let b = bound (unary_of now) (λ g. Some (and_unary frame.left (denied frame.nots g))) f h in
    let w = b.gives in
    let k : and_unary frame.left (denied frame.nots b.value) ≡ f = cc in
    let u = unary_out (at + length r.front) r.back now b.value r.in_back b.was in
    let lb = length-bangs frame.nots in
    let la = length-append r.in_front.text (bangs frame.nots) in
    let e : at + length r.front ≡ at + length r.in_front.text + frame.nots = ap (λ x. at + length x) r.in_front.is ∙
    (let q : at + length (r.in_front.text ++ bangs frame.nots) ≡ at + length r.in_front.text + frame.nots = omega arith in q) in
    let d = denied_out frame.nots (at + length r.in_front.text) r.back b.value
    (derives_at Unary (at + length r.front) (at + length r.in_front.text + frame.nots) r.back b.value e u) in
    let all : ts ≡ r.in_front.text ++ (bangs frame.nots ++ r.back) = r.is ∙
    (ap (λ x. x ++ r.back) r.in_front.is ∙ append_assoc r.in_front.text (bangs frame.nots) r.back) in
    subst (λ x. Derives Whole at ts x) k
    (left_out at r.in_front.text (bangs frame.nots ++ r.back) ts frame.left (denied frame.nots b.value) r.in_front.left d all)

-- the state after one more token
abbrev pub After : List Sign → Stack → Type 0
After ts s = StateReads ts s.now s.frame s.outer

now_in : (ts : List Sign) (t : Sign) (now next : Now) (frame : Frame) (outer : List Frame) → (r : StateReads ts now frame outer) →
    NowReads (1 + length r.front + length r.in_back.front) (r.in_back.back ++ t ∷ []) next → StateReads (ts ++ t ∷ []) next frame outer
now_in ts t now next frame outer r h = record {
  front = r.front;
  back = r.back ++ t ∷ [];
  is = ap (λ x. x ++ t ∷ []) r.is ∙ append_assoc r.front r.back (t ∷ []);
  in_front = r.in_front;
  in_back = record {
    front = r.in_back.front;
    back = r.in_back.back ++ t ∷ [];
    is = ap (λ x. x ++ t ∷ []) r.in_back.is ∙ append_assoc r.in_back.front r.in_back.back (t ∷ []);
    in_front = r.in_back.in_front;
    in_back = h;
  };
}

place : (ts : List Sign) (now : Now) (frame : Frame) (outer : List Frame) → (r : StateReads ts now frame outer) →
    1 + length ts ≡ 1 + length r.front + length r.in_back.front + length r.in_back.back
place ts now frame outer r =
    let a = length-append r.front r.back in
    let b = length-append r.in_back.front r.in_back.back in
    let c = ap length r.is in
    let d = ap length r.in_back.is in
    omega arith

plain_sound : (ts : List Sign) (t : Sign) (now : Now) (frame : Frame) (outer : List Frame) (u : Stack) → StateReads ts now frame outer →
    plain_step (1 + length ts) (with_now frame outer now) t ≡ Some u → After (ts ++ t ∷ []) u
plain_sound ts t Fresh frame outer u r h =
    let b = bound (now_step (1 + length ts) Fresh t) (λ x. Some (with_now frame outer x)) u h in
    let w = b.gives in
    let k : with_now frame outer b.value ≡ u = cc in
    let at = 1 + length r.front + length r.in_back.front in
    let z : r.in_back.back ≡ [] = r.in_back.in_back in
    let p : 1 + length ts ≡ at + length r.in_back.back = place ts Fresh frame outer r in
    let g : GroupsRead at r.in_back.back empty_layer [] = subst (λ x. GroupsRead at x empty_layer []) (sym z) (Outmost (empty_reads at)) in
    let n = layer_sound at r.in_back.back empty_layer [] t b.value g (subst (λ x. layer_step x empty_layer [] t ≡ Some b.value) p b.was) in
    subst (λ x. After (ts ++ t ∷ []) x) k (now_in ts t Fresh b.value frame outer r n)
plain_sound ts t (Plainly l groups) frame outer u r h =
    let b = bound (now_step (1 + length ts) (Plainly l groups) t) (λ x. Some (with_now frame outer x)) u h in
    let w = b.gives in
    let k : with_now frame outer b.value ≡ u = cc in
    let at = 1 + length r.front + length r.in_back.front in
    let p : 1 + length ts ≡ at + length r.in_back.back = place ts (Plainly l groups) frame outer r in
    let n = layer_sound at r.in_back.back l groups t b.value r.in_back.in_back (subst (λ x. layer_step x l groups t ≡ Some b.value) p b.was) in
    subst (λ x. After (ts ++ t ∷ []) x) k (now_in ts t (Plainly l groups) b.value frame outer r n)
plain_sound ts t (Closed f) frame outer u r h = cc

bang_sound : (ts : List Sign) (now : Now) (frame : Frame) (outer : List Frame) (u : Stack) → StateReads ts now frame outer →
    step (1 + length ts) (with_now frame outer now) Bang ≡ Some u → After (ts ++ Bang ∷ []) u
bang_sound ts Fresh frame outer u r h =
    let more : Frame = record { left = frame.left; nots = suc frame.nots } in
    let k : with_now more outer Fresh ≡ u = cc in
    let z : r.in_back.back ≡ [] = r.in_back.in_back in
    let b_is : r.back ≡ r.in_back.front = r.in_back.is ∙ (ap (λ x. r.in_back.front ++ x) z ∙ append-nil r.in_back.front) in
    let f = r.in_back.in_front in
    let n : r.back ++ Bang ∷ [] ≡ f.text ++ bangs (suc frame.nots) =
    ap (λ x. x ++ Bang ∷ []) (b_is ∙ f.is) ∙ (append_assoc f.text (bangs frame.nots) (Bang ∷ []) ∙ ap (λ x. f.text ++ x) (bangs-more frame.nots)) in
    let out : StateReads (ts ++ Bang ∷ []) Fresh more outer = record {
      front = r.front;
      back = r.back ++ Bang ∷ [];
      is = ap (λ x. x ++ Bang ∷ []) r.is ∙ append_assoc r.front r.back (Bang ∷ []);
      in_front = r.in_front;
      in_back = record {
        front = r.back ++ Bang ∷ [];
        back = [];
        is = sym (append-nil (r.back ++ Bang ∷ []));
        in_front =
            record { text = f.text; is = n; left = f.left };
        in_back = refl;
      };
    } in
    subst (λ x. After (ts ++ Bang ∷ []) x) k out
bang_sound ts (Plainly l groups) frame outer u r h = cc
bang_sound ts (Closed f) frame outer u r h = cc

begin_sound : (ts : List Sign) (now : Now) (frame : Frame) (outer : List Frame) (u : Stack) → StateReads ts now frame outer →
    step (1 + length ts) (with_now frame outer now) Begin ≡ Some u → After (ts ++ Begin ∷ []) u
begin_sound ts Fresh frame outer u r h =
    let k : with_now fresh_frame (frame ∷ outer) Fresh ≡ u = cc in
    let z : r.in_back.back ≡ [] = r.in_back.in_back in
    let b_is : r.back ≡ r.in_back.front = r.in_back.is ∙ (ap (λ x. r.in_back.front ++ x) z ∙ append-nil r.in_back.front) in
    let f : FrameReads (1 + length r.front) r.back frame = subst (λ x. FrameReads (1 + length r.front) x frame) (sym b_is) r.in_back.in_front in
    let all : ts ++ Begin ∷ [] ≡ r.front ++ (r.back ++ Begin ∷ []) = ap (λ x. x ++ Begin ∷ []) r.is ∙ append_assoc r.front r.back (Begin ∷ []) in
    let out : StateReads (ts ++ Begin ∷ []) Fresh fresh_frame (frame ∷ outer) = record {
      front = ts ++ Begin ∷ [];
      back = [];
      is = sym (append-nil (ts ++ Begin ∷ []));
      in_front = InOuter r.front r.back r.in_front f all;
      in_back = record { front = []; back = []; is = refl; in_front = record { text = []; is = refl; left = NoLeft }; in_back = refl };
    } in
    subst (λ x. After (ts ++ Begin ∷ []) x) k out
begin_sound ts (Plainly l groups) frame outer u r h = cc
begin_sound ts (Closed f) frame outer u r h = cc

pop_sound : (ts front back : List Sign) (outer : List Frame) (f : Form) (u : Stack) → OuterReads front outer → Derives Whole (1 + length front) back f →
    ts ≡ front ++ back → pops f outer ≡ Some u → After (ts ++ End ∷ []) u
pop_sound ts front back outer f u NoOuter d z h = cc
pop_sound ts front back outer f u (InOuter {frame = frame} {outer = rest} us vs o fr w) d z h =
    let k : with_now frame rest (Closed f) ≡ u = cc in
    let piece : List Sign = Begin ∷ (back ++ End ∷ []) in
    let la = length-append vs (Begin ∷ []) in
    let lb = length-append us (vs ++ Begin ∷ []) in
    let lw = ap length w in
    let e : 1 + length front ≡ 1 + length us + length vs + 1 = omega arith in
    let b : Derives Unary (1 + length us + length vs) piece f =
    Braced back (derives_at Whole (1 + length front) (1 + length us + length vs + 1) back f e d) refl in
    let all : ts ++ End ∷ [] ≡ us ++ (vs ++ piece) =
    ap (λ x. x ++ End ∷ []) (z ∙ ap (λ x. x ++ back) w) ∙
    (append_assoc (us ++ (vs ++ Begin ∷ [])) back (End ∷ []) ∙
    (append_assoc us (vs ++ Begin ∷ []) (back ++ End ∷ []) ∙ ap (λ x. us ++ x) (append_assoc vs (Begin ∷ []) (back ++ End ∷ [])))) in
    let out : StateReads (ts ++ End ∷ []) (Closed f) frame rest = record {
      front = us;
      back = vs ++ piece;
      is = all;
      in_front = o;
      in_back = record { front = vs; back = piece; is = refl; in_front = fr; in_back = b };
    } in
    subst (λ x. After (ts ++ End ∷ []) x) k out

end_sound : (ts : List Sign) (now : Now) (frame : Frame) (outer : List Frame) (u : Stack) → StateReads ts now frame outer →
    step (1 + length ts) (with_now frame outer now) End ≡ Some u → After (ts ++ End ∷ []) u
end_sound ts now frame outer u r h =
    let b = bound (form_here now frame) (λ f. pops f outer) u h in
    pop_sound ts r.front r.back outer b.value u r.in_front (form_out (1 + length r.front) r.back now frame b.value r.in_back b.was) r.is b.gives

amp_sound : (ts : List Sign) (now : Now) (frame : Frame) (outer : List Frame) (u : Stack) → StateReads ts now frame outer →
    step (1 + length ts) (with_now frame outer now) Ampersand ≡ Some u → After (ts ++ Ampersand ∷ []) u
amp_sound ts now frame outer u r h =
    let b = bound (form_here now frame) (λ f. Some (with_now (record { left = Some f; nots = 0 }) outer Fresh)) u h in
    let w = b.gives in
    let next : Frame = record { left = Some b.value; nots = 0 } in
    let k : with_now next outer Fresh ≡ u = cc in
    let d = form_out (1 + length r.front) r.back now frame b.value r.in_back b.was in
    let out : StateReads (ts ++ Ampersand ∷ []) Fresh next outer = record {
      front = r.front;
      back = r.back ++ Ampersand ∷ [];
      is = ap (λ x. x ++ Ampersand ∷ []) r.is ∙ append_assoc r.front r.back (Ampersand ∷ []);
      in_front = r.in_front;
      in_back = record {
        front = r.back ++ Ampersand ∷ [];
        back = [];
        is = sym (append-nil (r.back ++ Ampersand ∷ []));
        in_front = record { text = r.back ++ Ampersand ∷ []; is = sym (append-nil (r.back ++ Ampersand ∷ [])); left = SomeLeft r.back d refl };
        in_back = refl;
      };
    } in
    subst (λ x. After (ts ++ Ampersand ∷ []) x) k out

step_sound : (ts : List Sign) (t : Sign) (s u : Stack) → After ts s → step (1 + length ts) s t ≡ Some u → After (ts ++ t ∷ []) u
step_sound ts Bang s u r h = bang_sound ts s.now s.frame s.outer u r h
step_sound ts Begin s u r h = begin_sound ts s.now s.frame s.outer u r h
step_sound ts End s u r h = end_sound ts s.now s.frame s.outer u r h
step_sound ts Ampersand s u r h = amp_sound ts s.now s.frame s.outer u r h
step_sound ts (Name a) s u r h = plain_sound ts (Name a) s.now s.frame s.outer u r h
step_sound ts Empty s u r h = plain_sound ts Empty s.now s.frame s.outer u r h
step_sound ts Open s u r h = plain_sound ts Open s.now s.frame s.outer u r h
step_sound ts Close s u r h = plain_sound ts Close s.now s.frame s.outer u r h
step_sound ts Bar s u r h = plain_sound ts Bar s.now s.frame s.outer u r h
step_sound ts Times s u r h = plain_sound ts Times s.now s.frame s.outer u r h

run_sound : (ts us : List Sign) (at : ℕ) (s u : Stack) → at ≡ 1 + length ts → After ts s → read_from at s us ≡ Some u → After (ts ++ us) u
run_sound ts [] at s u z r h = let k : s ≡ u = cc in subst (λ x. After x u) (sym (append-nil ts)) (subst (λ x. After ts x) k r)
run_sound ts (t ∷ us) at s u z r h =
    let b = bound (step at s t) (λ v. read_from (at + 1) v us) u h in
    let k = step_sound ts t s b.value r (subst (λ x. step x s t ≡ Some b.value) z b.was) in
    let la = length-append ts (t ∷ []) in
    let more = run_sound (ts ++ t ∷ []) us (at + 1) b.value u (omega arith) k b.gives in
    subst (λ x. After x u) (append_assoc ts (t ∷ []) us) more

outer_none : (front : List Sign) (outer : List Frame) → OuterReads front outer → outer ≡ [] → front ≡ []
outer_none front outer NoOuter z = refl
outer_none front outer (InOuter us vs o fr w) z = cc

ended_sound : (ts : List Sign) (now : Now) (frame : Frame) (outer : List Frame) (f : Form) → StateReads ts now frame outer →
    ended (with_now frame outer now) ≡ Some f → IsForm 1 ts f
ended_sound ts now frame [] f r h =
    let z : r.front ≡ [] = outer_none r.front [] r.in_front refl in
    let t : ts ≡ r.back = r.is ∙ ap (λ x. x ++ r.back) z in
    let d = form_out (1 + length r.front) r.back now frame f r.in_back h in
    subst (λ x. IsForm 1 x f) (sym t) (derives_at Whole (1 + length r.front) 1 r.back f (ap (λ x. 1 + length x) z) d)
ended_sound ts now frame (x ∷ outer) f r h = cc

pub sound : (ts : List Sign) (f : Form) → parsed ts ≡ Some f → IsForm 1 ts f
sound ts f h =
    let b = bound (read_from 1 start ts) ended f h in
    let initial : After [] start =
    record {
      front = [];
      back = [];
      is = refl;
      in_front = NoOuter;
      in_back =
          record { front = []; back = []; is = refl; in_front = record { text = []; is = refl; left = NoLeft }; in_back = refl };
    } in
    let e = run_sound [] ts 1 start b.value refl initial b.was in
    ended_sound ts b.value.now b.value.frame b.value.outer f e b.gives

-- The laws of what a command makes of messages. They are here, and not in proofs/, because the
-- trait's laws name them.
use Rattle.std.proofs.Common.{◌≡◌, ℕ, Bool, true, false, ◌&&◌, List, [], ◌∷◌, ◌++◌, length, inl, inr, refl, sym, ap, ◌∙◌, subst, append_assoc}
use Rattle.std.proofs.lemmas.Bool.{false≢true}
use Rattle.dbus_names.specs.NameStates.{NameState}
use Rattle.cli_options.specs.declared.command.Command.{Command}
use Rattle.cli_options.specs.declared.command.Output.{Output}
use Rattle.cli_options.specs.declared.command.Output.TheVariants.{Nothing}
use Rattle.cli_options.specs.declared.file_form.FileForm.{FileForm}
use Rattle.cli_options.specs.declared.file_form.FileForm.TheVariants.{Raw}
use Rattle.cli_options.specs.declared.window.Window.{Window}
use Rattle.cli_run.specs.Inputs.{Placed}
use Rattle.cli_run.specs.Learning.{known_after}
use Rattle.cli_run.specs.Output.{IsOutputOfAll, PicksBy, begun_after, form_of, header_before, header_if, is_check, is_framed, output_of, owners_after_all, written}
use Rattle.cli_run.specs.Rendering.{Makes, OutputState, state_after, state_of}
use Rattle.cli_run.specs.VisitorLaws.{after_more, after_none, known_both, written_more, written_none}
use Rattle.cli_run.specs.declared.output.OutputRenderer.{OutputRenderer}

-- messages after others
pub output_both : (command : Command) (os : NameState) (items more : List Placed) (a b : List (List ℕ)) → IsOutputOfAll command os items a
    → IsOutputOfAll command (owners_after_all command os items) more b → IsOutputOfAll command os (items ++ more) (a ++ b)
output_both command os [] more a b p q = subst (λ l. IsOutputOfAll command os more (l ++ b)) (sym p) q
output_both command os (m ∷ items) more a b p q =
    (p.0, p.1 ++ b, ap (λ l. l ++ b) p.2 ∙ append_assoc p.0 p.1 b, p.3, output_both command (known_after command.selection os m.item.message) items more p.1 b p.4 q)

-- the header comes before the first message alone
pub and_false : (b : Bool) → b && false ≡ false
and_false true = refl
and_false false = refl

header_once : (form : FileForm) (items : List Placed) → header_before form true items ≡ []
header_once form [] = refl
header_once form (m ∷ items) = ap header_if (and_false (is_framed form m.place))

-- what comes after it goes on
pub header_both : (form : FileForm) (begun : Bool) (items more : List Placed) (a b : List ℕ) → (items ≡ [] → a ≡ [])
    → (header_before form begun items ++ a) ++ (header_before form (begun_after begun items) more ++ b) ≡ header_before form begun (items ++ more) ++ (a ++ b)
header_both form begun [] more a b none =
    ap (λ l. l ++ (header_before form begun more ++ b)) (none refl) ∙ ap (λ l. header_before form begun more ++ (l ++ b)) (sym (none refl))
header_both form begun (m ∷ items) more a b none =
    ap (λ l. (header_before form begun (m ∷ items) ++ a) ++ (l ++ b)) (header_once form more) ∙ append_assoc (header_before form begun (m ∷ items)) a b

pub begun_both : (begun : Bool) (items more : List Placed) → begun_after (begun_after begun items) more ≡ begun_after begun (items ++ more)
begun_both begun [] more = refl
begun_both begun (m ∷ items) [] = refl
begun_both begun (m ∷ items) (l ∷ more) = refl

-- of no messages no texts are made
pub none_written : (command : Command) (os : NameState) (window : Window) (items : List Placed) (texts : List (List ℕ)) → IsOutputOfAll command os items texts → items ≡ [] → written window texts ≡ []
none_written command os window items texts made none = ap (λ t. written window t) (subst (λ (l : List Placed). IsOutputOfAll command os l texts) none made) ∙ written_none window

-- ---- the laws

pub nothing : (s : OutputState) → Makes s [] [] s
nothing s = record { texts = []; made = refl; text_is = sym (written_none s.window); then = λ i. record { command = s.command; window = sym (after_none s.window) i; begun = s.begun; owners = s.owners } }

-- from where the first texts leave off
module _ (s : OutputState) (a b : List Placed) (p q : List ℕ) (u : OutputState) (h : List (List ℕ)) (made : IsOutputOfAll s.command s.owners a h) (text : p ≡ output_of (form_of s.command.output) s.begun s.window a h) where
  after_first : Makes (state_after s a (length h)) b q u → Makes s (a ++ b) (p ++ q) u
  after_first k =
      let form = form_of s.command.output in
      let now = (state_after s a (length h)).window in
      record {
        texts = h ++ k.texts;
        made = output_both s.command s.owners a b h k.texts made k.made;
        text_is = (λ i. text i ++ k.text_is i)
            ∙ (header_both form s.begun a b (written s.window h) (written now k.texts) (none_written s.command s.owners s.window a h made)
            ∙ ap (λ l. header_before form s.begun (a ++ b) ++ l) (written_more s.window now h k.texts refl));
        then = k.then ∙ (λ i. record { command = s.command; window = after_more s.window now h k.texts refl i; begun = begun_both s.begun a b i; owners = known_both s.command.selection s.owners a b i });
      }

pub joins : (s t u : OutputState) (a b : List Placed) (p q : List ℕ) → Makes s a p t → Makes t b q u → Makes s (a ++ b) (p ++ q) u
joins s t u a b p q h k = after_first s a b p q u h.texts h.made h.text_is (subst (λ (x : OutputState). Makes x b q u) h.then k)

-- `check` makes no texts
pub no_texts : (command : Command) → command.output ≡ Nothing → (os : NameState) (items : List Placed) (texts : List (List ℕ)) → IsOutputOfAll command os items texts → texts ≡ []
no_texts command is os [] texts made = made
no_texts command is os (m ∷ items) texts made =
    let none : made.0 ≡ [] = elim made.3 [ inl some ↦ absurd (subst (λ (o : Output). PicksBy o command.selection os m.item.message) is some.0) | inr none ↦ none.1 ] in
    made.2 ∙ (λ i. none i ++ no_texts command is (known_after command.selection os m.item.message) items made.1 made.4 i)

pub no_header : (begun : Bool) (items : List Placed) → header_before Raw begun items ≡ []
no_header begun [] = refl
no_header begun (m ∷ items) = refl

pub checks : (output : Output) → is_check output ≡ true → output ≡ Nothing
checks Nothing check = refl
checks output check = absurd (false≢true check)

pub quiet : {A : Type 0} (a : OutputRenderer A) (s t : OutputState) (items : List Placed) (text : List ℕ) → is_check a.output ≡ true → s ≡ state_of a → Makes s items text t → text ≡ []
quiet a s t items text check there h =
    let is : s.command.output ≡ Nothing = checks s.command.output (ap (λ (x : OutputState). is_check x.command.output) there ∙ check) in
    h.text_is ∙ ((λ i. output_of (form_of (is i)) s.begun s.window items (no_texts s.command is s.owners items h.texts h.made i)) ∙ ((λ i. no_header s.begun items i ++ written s.window []) ∙ written_none s.window))

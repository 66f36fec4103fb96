-- Lines of a stream, and what they ask for, computed from their texts.
use Rattle.std.proofs.Common.{◌≡◌, ℕ, List, [], ◌∷◌, codes, Option, Some, None, refl}
use Rattle.serde_json.specs.Read.{read as read_text}
use Rattle.serde_json.proofs.OnLiterals.{serde_json_on_literals}
use Rattle.uuid.proofs.OnLiterals.{uuid_on_literals}
use Rattle.fm_coord.specs.declared.entry.Range.TheVariants.{Interval, Full}
use Rattle.fm_script.specs.declared.script.ScriptAct.TheVariants as act
use Rattle.fm_script.specs.declared.script.RoundKind.TheVariants.{Relief}
use Rattle.fm_question.specs.declared.question.Question.TheVariants as question
use Rattle.fm_question.specs.declared.question.Listing.TheVariants as listing
use Rattle.fm_question.specs.declared.question.Subject.TheVariants as subject
use Rattle.fm_script.specs.Json.{bind}
use Rattle.fm_script.specs.Requests.{RequestModel, Opens, Does, Cuts, News, Takes, Asks, Agrees, Versions, Renews, request_from}

-- what a line asks for, given that one packet was cut before, under the name p
abbrev asked_by : List ℕ → Option RequestModel
asked_by line = bind (read_text line) (request_from (codes "p" ∷ []))

opening : asked_by (codes "{\"coordinators\":[2,64]}") ≡ Some (Opens (2 ∷ 64 ∷ []))
unfolding serde_json_on_literals
opening = refl

opened_twice : asked_by (codes "{\"coordinators\":[2,2]}") ≡ None
unfolding serde_json_on_literals
opened_twice = refl

step : asked_by (codes "{\"trim\":3,\"at\":255}") ≡ Some (Does (record { at = 255; act = act.Trim 3 }))
unfolding serde_json_on_literals
step = refl

delivery : asked_by (codes "{\"at\":1,\"deliver\":\"p\"}") ≡ Some (Does (record { at = 1; act = act.Deliver 0 }))
unfolding serde_json_on_literals
delivery = refl

cut : asked_by (codes "{\"at\":1,\"cut\":{}}") ≡ Some (Cuts 1 Full None)
unfolding serde_json_on_literals
cut = refl

cut_under_name : asked_by (codes "{\"at\":1,\"cut\":{\"from\":0,\"to\":7,\"name\":\"q\"}}") ≡ Some (Cuts 1 (Interval 0 7) (Some (codes "q")))
unfolding serde_json_on_literals
cut_under_name = refl

cut_under_used_name : asked_by (codes "{\"at\":1,\"cut\":{\"name\":\"p\"}}") ≡ None
unfolding serde_json_on_literals
cut_under_used_name = refl

cut_of_no_object : asked_by (codes "{\"at\":1,\"cut\":true}") ≡ None
unfolding serde_json_on_literals
cut_of_no_object = refl

news : asked_by (codes "{\"at\":1,\"news\":true}") ≡ Some (News 1)
unfolding serde_json_on_literals
news = refl

no_news : asked_by (codes "{\"at\":1,\"news\":false}") ≡ None
unfolding serde_json_on_literals
no_news = refl

packet : asked_by (codes "{\"at\":2,\"take\":\"4644\"}") ≡ Some (Takes 2 (codes "4644"))
unfolding serde_json_on_literals
packet = refl

winners : asked_by (codes "{\"at\":1,\"ask\":\"winners\"}") ≡ Some (Asks 1 question.Winners)
unfolding serde_json_on_literals
winners = refl

list : asked_by (codes "{\"at\":1,\"ask\":\"list\"}") ≡ Some (Asks 1 (question.List listing.All))
unfolding serde_json_on_literals
list = refl

list_of_jobs : asked_by (codes "{\"at\":1,\"ask\":\"list\",\"of\":\"jobs\"}") ≡ Some (Asks 1 (question.List listing.Jobs))
unfolding serde_json_on_literals
list_of_jobs = refl

list_of_machines : asked_by (codes "{\"of\":\"machines\",\"at\":1,\"ask\":\"list\"}") ≡ Some (Asks 1 (question.List listing.Machines))
unfolding serde_json_on_literals
list_of_machines = refl

list_of_tasks : asked_by (codes "{\"at\":1,\"ask\":\"list\",\"of\":\"tasks\"}") ≡ Some (Asks 1 (question.List listing.Tasks))
unfolding serde_json_on_literals
list_of_tasks = refl

list_of_waiting : asked_by (codes "{\"at\":1,\"ask\":\"list\",\"of\":\"waiting\"}") ≡ Some (Asks 1 (question.List listing.Waiting))
unfolding serde_json_on_literals
list_of_waiting = refl

list_of_no_kind : asked_by (codes "{\"at\":1,\"ask\":\"list\",\"of\":\"x\"}") ≡ None
unfolding serde_json_on_literals
list_of_no_kind = refl

list_of_no_text : asked_by (codes "{\"at\":1,\"ask\":\"list\",\"of\":null}") ≡ None
unfolding serde_json_on_literals
list_of_no_text = refl

list_of_a_task : asked_by (codes "{\"at\":1,\"ask\":\"list\",\"task\":\"11\"}") ≡ None
unfolding serde_json_on_literals
list_of_a_task = refl

agreement : asked_by (codes "{\"ask\":\"agree\"}") ≡ Some Agrees
unfolding serde_json_on_literals
agreement = refl

version : asked_by (codes "{\"ask\":\"version\"}") ≡ Some Versions
unfolding serde_json_on_literals
version = refl

version_of_one : asked_by (codes "{\"at\":1,\"ask\":\"version\"}") ≡ None
unfolding serde_json_on_literals
version_of_one = refl

reason : asked_by (codes "{\"at\":1,\"ask\":\"why\",\"task\":\"00000000-0000-0000-0000-000000000007\"}") ≡ Some (Asks 1 (question.Why 7))
unfolding serde_json_on_literals uuid_on_literals
reason = refl

next_of_a_job : asked_by (codes "{\"at\":1,\"ask\":\"next\",\"job\":\"00000000-0000-0000-0000-000000000007\"}") ≡ Some (Asks 1 (question.Next (subject.Job 7)))
unfolding serde_json_on_literals uuid_on_literals
next_of_a_job = refl

next_of_a_task : asked_by (codes "{\"at\":1,\"ask\":\"next\",\"task\":\"00000000-0000-0000-0000-000000000007\"}") ≡ Some (Asks 1 (question.Next (subject.Task 7)))
unfolding serde_json_on_literals uuid_on_literals
next_of_a_task = refl

next_of_a_machine : asked_by (codes "{\"at\":1,\"ask\":\"next\",\"machine\":\"00000000-0000-0000-0000-000000000007\",\"incarnation\":2}") ≡ Some (Asks 1 (question.Next (subject.Machine 7 2)))
unfolding serde_json_on_literals uuid_on_literals
next_of_a_machine = refl

next_of_nothing : asked_by (codes "{\"at\":1,\"ask\":\"next\"}") ≡ None
unfolding serde_json_on_literals
next_of_nothing = refl

next_of_no_incarnation : asked_by (codes "{\"at\":1,\"ask\":\"next\",\"machine\":\"00000000-0000-0000-0000-000000000007\"}") ≡ None
unfolding serde_json_on_literals
next_of_no_incarnation = refl

next_of_an_incarnation_in_text : asked_by (codes "{\"at\":1,\"ask\":\"next\",\"machine\":\"00000000-0000-0000-0000-000000000007\",\"incarnation\":\"2\"}") ≡ None
unfolding serde_json_on_literals uuid_on_literals
next_of_an_incarnation_in_text = refl

next_of_a_job_and_a_task : asked_by (codes "{\"at\":1,\"ask\":\"next\",\"job\":\"00000000-0000-0000-0000-000000000007\",\"task\":\"00000000-0000-0000-0000-000000000007\"}") ≡ None
unfolding serde_json_on_literals
next_of_a_job_and_a_task = refl

next_of_a_job_at_an_incarnation : asked_by (codes "{\"at\":1,\"ask\":\"next\",\"job\":\"00000000-0000-0000-0000-000000000007\",\"incarnation\":2}") ≡ None
unfolding serde_json_on_literals
next_of_a_job_at_an_incarnation = refl

next_of_no_id : asked_by (codes "{\"at\":1,\"ask\":\"next\",\"task\":\"7\"}") ≡ None
unfolding serde_json_on_literals uuid_on_literals
next_of_no_id = refl

reason_of_nothing : asked_by (codes "{\"at\":1,\"ask\":\"why\"}") ≡ None
unfolding serde_json_on_literals
reason_of_nothing = refl

reason_of_no_text : asked_by (codes "{\"at\":1,\"ask\":\"why\",\"task\":17}") ≡ None
unfolding serde_json_on_literals
reason_of_no_text = refl

no_question : asked_by (codes "{\"ask\":\"graph\"}") ≡ None
unfolding serde_json_on_literals
no_question = refl

size : asked_by (codes "{\"at\":1,\"ask\":\"size\"}") ≡ Some (Asks 1 question.Size)
unfolding serde_json_on_literals
size = refl

over : asked_by (codes "{\"at\":1,\"ask\":\"over\"}") ≡ Some (Asks 1 question.Over)
unfolding serde_json_on_literals
over = refl

relief : asked_by (codes "{\"at\":1,\"relieve\":true}") ≡ Some (Does (record { at = 1; act = act.Round Relief }))
unfolding serde_json_on_literals
relief = refl

no_relief : asked_by (codes "{\"at\":1,\"relieve\":false}") ≡ None
unfolding serde_json_on_literals
no_relief = refl

renewal : asked_by (codes "{\"renew\":true}") ≡ Some Renews
unfolding serde_json_on_literals
renewal = refl

more_members : asked_by (codes "{\"at\":1,\"news\":true,\"more\":0}") ≡ None
unfolding serde_json_on_literals
more_members = refl

no_json : asked_by (codes "{\"renew\":true") ≡ None
unfolding serde_json_on_literals
no_json = refl

nothing : asked_by [] ≡ None
unfolding serde_json_on_literals
nothing = refl
